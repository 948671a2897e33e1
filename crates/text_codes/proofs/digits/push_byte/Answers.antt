use Rattle.text_codes.proofs.DigitLemmas.{accepted, two_are_utf8}
use Rattle.text_codes.proofs.digits.push_byte.Goals as goal

pub unwrap-requires : goal.unwrap-requires
unwrap-requires c =
    accepted _ _ _ c.from_utf8.result (two_are_utf8 c.hex_digit.result c.hex_digit-2.result c.hex_digit.ensures.ascii
    c.hex_digit-2.ensures.ascii) c.from_utf8.ensures.cases
