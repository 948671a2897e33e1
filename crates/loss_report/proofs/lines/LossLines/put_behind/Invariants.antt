use Rattle.std.proofs.Common.{◌≡◌, ◌++◌, drop}
use Rattle.std.specs.List.{flat_map}
use Rattle.loss_report.proofs.lines.LossLines.put_behind.Given as goal

-- with the lines that are left it is the whole text
abbrev pub invariant-loop-i : goal.invariant-loop-i
invariant-loop-i l =
    l.text ++ flat_map (λ line. line) (drop l.i l.self) ≡ l.fn.text ++ flat_map (λ line. line) l.self
