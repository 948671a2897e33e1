use Rattle.std.proofs.Common.{◌≡◌, ◌+◌, ◌*◌, ◌≤◌}
use Rattle.fib_versions.specs.Versions.{early_ccp, further_ccps}
use Rattle.fib_versions.proofs.reading.all_ccp.Given as goal

-- the stories before this one are counted, each below 2^32
abbrev pub invariant-loop-k : goal.invariant-loop-k
invariant-loop-k l = record {
  counted : l.all ≡ early_ccp l.wd + further_ccps l.wd l.k;
  room : l.all ≤ (l.k + 3) * 4294967296;
}
