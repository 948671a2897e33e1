use Rattle.std.proofs.Common.{length, sym, ap, arith}
use Rattle.std.specs.Prelude.{◌==◌}
use Rattle.std.proofs.lemmas.List.Sums.{position_or_len_is}
use Rattle.summary_set.proofs.texts.zero_place.Goals as goal

pub returns-then-bytes-i-eq0 : goal.returns-then-bytes-i-eq0
returns-then-bytes-i-eq0 c =
    sym (position_or_len_is (λ byte. byte == 0) c.args.bytes.now c.loop-i.i 0 (omega arith) c.loop-i.invariant
    (λ low. ap (λ byte. byte == 0) c.if-bytes-i-eq0.true))

pub returns : goal.returns
returns c =
    sym (position_or_len_is (λ byte. byte == 0) c.args.bytes.now (length c.args.bytes.now) 0 (omega arith) (λ k low.
    c.loop-i.invariant k (omega (arith, c.loop-i-test.false))) (λ low. absurd (omega arith)))
