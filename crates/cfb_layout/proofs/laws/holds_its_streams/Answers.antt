use Rattle.cfb_layout.proofs.MadeLemmas.{file_contents}
use Rattle.cfb_layout.proofs.laws.holds_its_streams.Goals as goal

pub returns : goal.returns
returns c = file_contents
