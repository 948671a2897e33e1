use Rattle.text_codes.proofs.Public.{accepted}
use Rattle.doc_show.proofs.SettingLemmas.{property_is_utf8}
use Rattle.doc_show.proofs.settings.push_small.Goals as goal

pub unwrap-requires : goal.unwrap-requires
unwrap-requires c =
    accepted _ _ _ c.from_utf8.result (property_is_utf8 c.hex_digit.result c.hex_digit-2.result c.hex_digit-3.result
    c.hex_digit-4.result c.hex_digit-5.result c.hex_digit-6.result c.hex_digit.ensures.ascii c.hex_digit-2.ensures.ascii
    c.hex_digit-3.ensures.ascii c.hex_digit-4.ensures.ascii c.hex_digit-5.ensures.ascii c.hex_digit-6.ensures.ascii)
    c.from_utf8.ensures.cases
