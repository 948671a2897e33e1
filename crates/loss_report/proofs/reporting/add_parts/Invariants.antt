use Rattle.std.proofs.Common.{◌≡◌, ◌++◌}
use Rattle.fib_versions.specs.Versions.{fib_pair_count}
use Rattle.loss_report.specs.Features.{part_features}
use Rattle.loss_report.specs.Lines.{loss_lines}
use Rattle.loss_report.proofs.ReportLemmas.{parts_between}
use Rattle.loss_report.proofs.reporting.add_parts.Given as goal

-- with the lines of the parts that are left they are all
abbrev pub invariant-loop-n : goal.invariant-loop-n
invariant-loop-n l =
    l.lines ++ loss_lines l.fib (parts_between l.fib l.n (fib_pair_count l.fib))
    ≡ l.fn.lines ++ loss_lines l.fib (part_features l.fib)
