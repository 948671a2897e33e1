use Rattle.std.proofs.Common.{◌+◌, ◌≤◌, List}
use Rattle.sprm_table.specs.Sprm.{Prl}
use Rattle.code_losses.specs.Counted.{HasAllCodes, AreCodeCounts}
use Rattle.code_losses.specs.Pages.{IsFoundInRun, CountsJoined}
use Rattle.code_losses.proofs.pages.count_page.Given as goal

-- the lists of the first runs are counted
abbrev pub invariant-loop-run : goal.invariant-loop-run
invariant-loop-run l = record {
  codes : HasAllCodes l.counts;
  seen : l.counts.seen ≤ l.fn.counts.seen + l.run;
  counted : (lists : List (List Prl)) → AreCodeCounts lists l.fn.counts →
      CountsJoined (IsFoundInRun l.kind l.page) l.run lists l.counts;
}
