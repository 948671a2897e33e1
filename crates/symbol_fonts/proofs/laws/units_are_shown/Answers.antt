use Rattle.symbol_fonts.proofs.CharacterLemmas.{units_right}
use Rattle.symbol_fonts.proofs.laws.units_are_shown.Goals as goal

pub returns : goal.returns
returns c = units_right
