use Rattle.fast_save.proofs.FullFileLemmas.{equal_files_have_one_save}
use Rattle.fast_save.proofs.laws.equal_files_have_one_save.Goals as goal

pub returns : goal.returns
returns c = equal_files_have_one_save
