use Rattle.list_numbers.proofs.RomanLemmas.{roman_read}
use Rattle.list_numbers.proofs.laws.roman_numerals_are_read_back.Goals as goal

pub returns : goal.returns
returns c = roman_read
