use Rattle.style_sheet.proofs.BaseLemmas.{unbroken_bases}
use Rattle.style_sheet.proofs.laws.unbroken_bases_are_sound.Goals as goal

pub returns : goal.returns
returns c = unbroken_bases
