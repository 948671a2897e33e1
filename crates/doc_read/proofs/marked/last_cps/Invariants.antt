use Rattle.std.proofs.Common.{◌≡◌, ◌≤◌, ◌-◌, map, take, drop}
use Rattle.doc_read.proofs.marked.last_cps.Given as goal

-- the ends of the sections before the last
abbrev pub invariant-loop-k : goal.invariant-loop-k
invariant-loop-k l = record {
  begun : 1 ≤ l.k;
  so_far : l.cps.items ≡ map (λ end. end - 1) (drop 1 (map (λ sed. sed.start) (take l.k l.sections)));
}
