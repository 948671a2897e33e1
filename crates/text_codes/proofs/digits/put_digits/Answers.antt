use Rattle.std.proofs.Common.{◌≡◌, ◌+◌, ◌<◌, ◌++◌, ◌∷◌, [], List, ℕ, take, slice_set, length-set, ◌∙◌, ◌*◌, arith}
use Rattle.std.specs.Prelude.{slice_index_or}
use Rattle.std.proofs.lemmas.List.{take_more}
use Rattle.text_codes.proofs.DigitLemmas.{digits_more, digits_valid}
use Rattle.text_codes.proofs.digits.put_digits.Goals as goal

pub loop-k-preserved : goal.loop-k-preserved
loop-k-preserved c =
    let bytes : List ℕ = c.args.bytes.now in
    let k : ℕ = c.loop-k.k in
    let byte : ℕ = slice_index_or bytes k 0 in
    let small : byte < 256 = (let fits = c.type_inv.bytes k in omega arith) in
    let next : take (k + 1) bytes ≡ take k bytes ++ byte ∷ [] = take_more bytes k 0 c.loop-k-test.true in
    record {
      long =
          length-set (slice_set c.loop-k.block (2 * k) c.hex_digit.result) (2 * k + 1) c.hex_digit-in-loop-k.result
          ∙ (length-set c.loop-k.block (2 * k) c.hex_digit.result ∙ c.loop-k.invariant.long);
      digits =
          rw (c.hex_digit.ensures.value, c.hex_digit-in-loop-k.ensures.value)
          (digits_more bytes c.loop-k.block k byte (omega (arith, c.loop-k.invariant.long, c.requires)) small
          c.loop-k.invariant.digits next);
      valid = digits_valid bytes k byte small c.loop-k.invariant.valid next;
    }
