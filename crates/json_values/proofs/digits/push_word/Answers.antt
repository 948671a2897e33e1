use Rattle.text_codes.proofs.Public.{accepted}
use Rattle.json_values.proofs.DigitLemmas.{four_are_utf8}
use Rattle.json_values.proofs.digits.push_word.Goals as goal

pub unwrap-requires : goal.unwrap-requires
unwrap-requires c =
    accepted _ _ _ c.from_utf8.result (four_are_utf8 c.digit.result c.digit-2.result c.digit-3.result c.digit-4.result
    c.digit.ensures.ascii c.digit-2.ensures.ascii c.digit-3.ensures.ascii c.digit-4.ensures.ascii)
    c.from_utf8.ensures.cases
