use Rattle.std.proofs.Common.{◌≡◌, ◌*◌, ◌∙◌, List, ℕ, take, drop, append_assoc, refl, arith}
use Rattle.text_codes.specs.Digits.{bytes_text}
use Rattle.text_codes.proofs.DigitLemmas.{accepted, digits_behind, part_digits, part_valid}
use Rattle.text_codes.proofs.digits.push_bytes.Goals as goal

pub unwrap-requires : goal.unwrap-requires
unwrap-requires c =
    accepted _ _ _ c.from_utf8.result
    (part_valid c.args.bytes.now c.put_digits.new.block c.loop-done.done c.min-count.result (omega arith)
    c.put_digits.ensures.digits c.put_digits.ensures.valid) c.from_utf8.ensures.cases

pub loop-done-preserved : goal.loop-done-preserved
loop-done-preserved c =
    let bytes : List ℕ = c.args.bytes.now in
    let done : ℕ = c.loop-done.done in
    let count : ℕ = c.min-count.result in
    let front : take (2 * count) c.put_digits.new.block ≡ bytes_text (take count (drop done bytes)) =
    part_digits bytes c.put_digits.new.block done count (omega arith) c.put_digits.ensures.digits in
    let text = rw c.unwrap.ensures at c.from_utf8.ensures.cases in
    record {
      inside = omega arith;
      text =
          c.in_ok-push_all.ensures.ok
          ∙ rw (text.0, front, c.loop-done.invariant.text, append_assoc, digits_behind bytes done count) refl;
    }
