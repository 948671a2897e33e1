use Rattle.std.proofs.Common.{refl}
use Rattle.text_codes.specs.Shown.{escape}
use Rattle.text_codes.proofs.DigitLemmas.{accepted}
use Rattle.text_codes.proofs.ShownLemmas.{six_are_utf8}
use Rattle.text_codes.proofs.showing.push_escape.Goals as goal

pub unwrap-requires : goal.unwrap-requires
unwrap-requires c =
    accepted _ _ _ c.from_utf8.result
    (six_are_utf8 c.hex_digit.result c.hex_digit-2.result c.hex_digit-3.result c.hex_digit-4.result
    c.hex_digit.ensures.ascii
    c.hex_digit-2.ensures.ascii c.hex_digit-3.ensures.ascii c.hex_digit-4.ensures.ascii) c.from_utf8.ensures.cases

pub returns-clause-ok : goal.returns-clause-ok
unfolding escape
returns-clause-ok c =
    let text = rw c.unwrap.ensures at c.from_utf8.ensures.cases in
    rw (
      c.in_ok-push_str.ensures.bytes,
      text.0,
      c.hex_digit.ensures.value,
      c.hex_digit-2.ensures.value,
      c.hex_digit-3.ensures.value,
      c.hex_digit-4.ensures.value,
    ) refl
