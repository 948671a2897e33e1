use Rattle.std.proofs.Common.{◌*◌, ◌≤◌, []}
use Rattle.code_losses.specs.Counted.{HasAllCodes}
use Rattle.code_losses.specs.Pages.{IsFoundInPage, CountsJoined}
use Rattle.code_losses.proofs.pages.count_pages.Given as goal

-- the lists of the first pages are counted
abbrev pub invariant-loop-number : goal.invariant-loop-number
invariant-loop-number l = record {
  codes : HasAllCodes l.counts;
  seen : l.counts.seen ≤ 128 * l.number;
  counted : CountsJoined (IsFoundInPage l.kind l.wd l.bin) l.number [] l.counts;
}
