use Rattle.std.proofs.Common.{◌≤◌, ◌<◌, ◌≡◌, length, subst, refl, arith}
use Rattle.full_save.specs.Streams.{IsPlaceFor}
use Rattle.full_save.proofs.PlaceLemmas.{place_here, place_later, place_end}
use Rattle.full_save.proofs.streams.place_for.Goals as goal

pub returns-then-not-name_before : goal.returns-then-not-name_before
returns-then-not-name_before c =
    let len = c.count-count.ensures.len in
    let test = c.loop-i-test.true in
    let low : c.loop-i.i < length c.args.streams.now = omega arith in
    place_here c.args.name.now c.args.streams.now c.loop-i.i c.name.result.now c.loop-i.invariant low c.name.ensures
    (λ before. absurd (cc (c.if-not-name_before.ensures.1 before)))

pub loop-i-preserved : goal.loop-i-preserved
loop-i-preserved c =
    place_later c.args.name.now c.args.streams.now c.loop-i.i c.name.result.now c.loop-i.invariant c.name.ensures
    (c.if-not-name_before.ensures.0 refl)

pub returns : goal.returns
returns c =
    let streams = c.args.streams.now in
    let len = c.count-count.ensures.len in
    let test = c.loop-i-test.false in
    let auto = c.loop-i.auto.i-end in
    let high : length streams ≤ c.loop-i.i = omega arith in
    let low : c.loop-i.i ≤ length streams = omega arith in
    let same : c.loop-i.i ≡ c.count-count.result = omega arith in
    subst (λ n. IsPlaceFor c.args.name.now streams n) same
    (place_end c.args.name.now streams c.loop-i.i c.loop-i.invariant high low)
