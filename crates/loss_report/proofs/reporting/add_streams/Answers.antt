-- The line of one stream more.
use Rattle.std.proofs.Common.{◌+◌, [], ◌∷◌, drop, ap, arith}
use Rattle.std.proofs.lemmas.List.{drop_all}
use Rattle.loss_report.specs.Features.{StreamOf, stream_features}
use Rattle.loss_report.proofs.ReportLemmas.{one_step, no_more, streams-from}
use Rattle.loss_report.proofs.reporting.add_streams.Goals as goal

pub loop-i-preserved : goal.loop-i-preserved
loop-i-preserved c =
    let name = c.name.result.now in
    let streams = c.args.container.now.streams in
    let i = c.loop-i.i in
    one_step c.args.fib.now c.loop-i.lines c.add_stream.new.lines _ (stream_features (drop i streams))
    (StreamOf name ∷ []) (stream_features (drop (i + 1) streams)) (streams-from streams i name c.name.ensures)
    c.in_ok-add_stream.ensures c.loop-i.invariant

pub returns : goal.returns
returns c =
    let streams = c.args.container.now.streams in
    let i = c.loop-i.i in
    let none = ap stream_features (drop_all i streams (omega (arith, c.count-i-end.ensures))) in
    no_more c.args.fib.now c.loop-i.lines _ (stream_features (drop i streams)) none c.loop-i.invariant
