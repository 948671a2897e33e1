use Rattle.fast_save_layout.proofs.ShortLemmas.{appended_files_are_short}
use Rattle.fast_save_layout.proofs.laws.appended_files_are_short.Goals as goal

pub returns : goal.returns
returns c = appended_files_are_short
