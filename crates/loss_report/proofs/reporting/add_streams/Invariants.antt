use Rattle.std.proofs.Common.{◌≡◌, ◌++◌, drop}
use Rattle.loss_report.specs.Features.{stream_features}
use Rattle.loss_report.specs.Lines.{loss_lines}
use Rattle.loss_report.proofs.reporting.add_streams.Given as goal

-- with the lines of the streams that are left they are all
abbrev pub invariant-loop-i : goal.invariant-loop-i
invariant-loop-i l =
    l.lines ++ loss_lines l.fib (stream_features (drop l.i l.container.streams))
    ≡ l.fn.lines ++ loss_lines l.fib (stream_features l.container.streams)
