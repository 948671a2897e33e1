use Rattle.symbol_fonts.proofs.CharacterLemmas.{characters_right}
use Rattle.symbol_fonts.proofs.laws.signs_are_characters.Goals as goal

pub returns : goal.returns
returns c = characters_right
