use Rattle.std.proofs.Common.{◌≡◌, ◌∙◌, sym, ap, refl, arith, ℕ, length, drop}
use Rattle.std.proofs.Math.ListN.{drop_of_length-le}
use Rattle.huge_papx.specs.Data.{data_of}
use Rattle.huge_papx.proofs.DataLemmas.{data_left, data_here}
use Rattle.huge_papx.proofs.data.data_of.Goals as goal

pub loop-i-init : goal.loop-i-init
loop-i-init c = refl

pub loop-i-preserved : goal.loop-i-preserved
loop-i-preserved c =
    c.loop-i.invariant
    ∙ data_left c.args.streams.now c.loop-i.i c.name.result.now (omega (arith, c.loop-i-test.true, c.loop-i.auto.i-end, c.count-i-end.ensures.len))
    c.name.ensures c.if-equal_names.ensures.test

pub returns : goal.returns
returns c =
    let streams = c.args.streams.now in
    sym (c.loop-i.invariant
    ∙ ap data_of (drop_of_length-le streams
    (omega (arith, c.loop-i-test.false, c.loop-i.auto.i-end, c.count-i-end.ensures.len))))

pub returns-then-equal_names : goal.returns-then-equal_names
returns-then-equal_names c =
    data_here c.args.streams.now c.loop-i.i c.name.result.now c.bytes.result.now
    (omega (arith, c.loop-i-test.true, c.loop-i.auto.i-end, c.count-i-end.ensures.len)) c.name.ensures c.bytes.ensures
    c.if-equal_names.ensures.test
    ∙ sym c.loop-i.invariant
