use Rattle.cfb_layout.proofs.ShorterLemmas.{no_file_shorter}
use Rattle.cfb_layout.proofs.laws.no_file_is_shorter.Goals as goal

pub returns : goal.returns
returns c = no_file_shorter
