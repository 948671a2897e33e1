use Rattle.save_laws.proofs.GivenFiles.{given_files_stand}
use Rattle.save_laws.proofs.laws.given_files_stand.Goals as goal

pub returns : goal.returns
returns c = given_files_stand
