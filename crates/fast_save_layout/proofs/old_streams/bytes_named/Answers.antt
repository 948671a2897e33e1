use Rattle.std.proofs.Common.{◌∙◌, ◌<◌, sym, length, arith}
use Rattle.fast_save_layout.proofs.StreamSteps.{stream_at, named_here, named_later, named_nowhere}
use Rattle.fast_save_layout.proofs.old_streams.bytes_named.Goals as goal

pub returns-then-equal_names : goal.returns-then-equal_names
returns-then-equal_names c =
    let streams = c.args.container.now.streams in
    let i = c.loop-i.i in
    let count = c.count-i-end.ensures in
    let test = c.loop-i-test.true in
    let below : i < length streams = omega (arith, count, test) in
    let is = stream_at streams i c.name.result.now c.bytes.result.now below c.name.ensures c.bytes.ensures in
    sym (c.loop-i.invariant
    ∙ named_here streams i c.args.name.now c.name.result.now c.bytes.result.now is c.if-equal_names.ensures.test)

pub loop-i-preserved : goal.loop-i-preserved
loop-i-preserved c =
    let streams = c.args.container.now.streams in
    let i = c.loop-i.i in
    let count = c.count-i-end.ensures in
    let test = c.loop-i-test.true in
    c.loop-i.invariant
    ∙ named_later streams i c.args.name.now c.name.result.now (omega (arith, count, test)) c.name.ensures
    c.if-equal_names.ensures.test

pub returns : goal.returns
returns c =
    let streams = c.args.container.now.streams in
    let count = c.count-i-end.ensures in
    let test = c.loop-i-test.false in
    sym (c.loop-i.invariant ∙ named_nowhere streams c.loop-i.i c.args.name.now (omega (arith, count, test)))
