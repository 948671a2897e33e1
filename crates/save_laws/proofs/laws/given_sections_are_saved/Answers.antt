use Rattle.save_laws.proofs.GivenFiles.{given_sections_are_saved}
use Rattle.save_laws.proofs.laws.given_sections_are_saved.Goals as goal

pub returns : goal.returns
returns c = given_sections_are_saved
