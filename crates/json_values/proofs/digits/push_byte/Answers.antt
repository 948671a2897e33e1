use Rattle.text_codes.proofs.Public.{accepted, two_are_utf8}
use Rattle.json_values.proofs.digits.push_byte.Goals as goal

pub unwrap-requires : goal.unwrap-requires
unwrap-requires c =
    accepted _ _ _ c.from_utf8.result (two_are_utf8 c.digit.result c.digit-2.result c.digit.ensures.ascii
    c.digit-2.ensures.ascii) c.from_utf8.ensures.cases
