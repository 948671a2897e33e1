use Rattle.std.proofs.Common.{◌≡◌, ◌+◌, ◌++◌, ◌∷◌, [], ◌∙◌, ap, refl, take, append_assoc, arith}
use Rattle.text_codes.specs.Shown.{escape}
use Rattle.text_codes.proofs.gathering.put_number.Goals as goal

pub returns-clause-bytes : goal.returns-clause-bytes
unfolding escape
returns-clause-bytes c =
    let front = take c.args.len c.args.block.now in
    let more = c.hex_digit-second.result ∷ c.hex_digit-third.result ∷ c.hex_digit-2.result ∷ [] in
    let both : take (c.args.len + 3 + 3) c.put_three-2.new.block
    ≡ (front ++ 92 ∷ 117 ∷ c.hex_digit.result ∷ []) ++ more =
    c.put_three-2.ensures.bytes ∙ ap (λ l. l ++ more) c.put_three.ensures.bytes in
    let at : c.args.len + 6 ≡ c.args.len + 3 + 3 = omega arith in
    ap (λ n. take n c.put_three-2.new.block) at
    ∙ both
    ∙ rw (
      append_assoc,
      c.hex_digit.ensures.value,
      c.hex_digit-second.ensures.value,
      c.hex_digit-third.ensures.value,
      c.hex_digit-2.ensures.value,
    ) refl
