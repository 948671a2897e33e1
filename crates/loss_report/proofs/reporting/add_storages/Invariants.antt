use Rattle.std.proofs.Common.{◌≡◌, ◌++◌, drop}
use Rattle.loss_report.specs.Features.{storage_features}
use Rattle.loss_report.specs.Lines.{loss_lines}
use Rattle.loss_report.proofs.reporting.add_storages.Given as goal

-- with the lines of the storages that are left they are all
abbrev pub invariant-loop-i : goal.invariant-loop-i
invariant-loop-i l =
    l.lines ++ loss_lines l.fib (storage_features (drop l.i l.outer.storages))
    ≡ l.fn.lines ++ loss_lines l.fib (storage_features l.outer.storages)
