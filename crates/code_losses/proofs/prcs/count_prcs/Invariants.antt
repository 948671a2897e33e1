use Rattle.std.proofs.Common.{◌*◌, ◌-◌, ◌≤◌, length}
use Rattle.code_losses.specs.Counted.{HasAllCodes}
use Rattle.code_losses.proofs.PrcLemmas.{CountsPrcs}
use Rattle.code_losses.proofs.prcs.count_prcs.Given as goal

-- the lists of the Prcs before an offset are counted
abbrev pub invariant-loop-len : goal.invariant-loop-len
invariant-loop-len l = record {
  codes : HasAllCodes l.counts;
  seen : 3 * l.counts.seen ≤ l.at;
  within : l.at ≤ length l.clx;
  counted : CountsPrcs l.clx l.at l.counts;
}

abbrev pub decreases-loop-len : goal.decreases-loop-len
decreases-loop-len l = length l.clx - l.at
