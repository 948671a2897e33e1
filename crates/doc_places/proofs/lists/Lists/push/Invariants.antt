use Rattle.std.proofs.Common.{◌≡◌, ◌+◌, ◌*◌, ◌≤◌, ◌++◌, length}
use Rattle.doc_places.specs.Lists.{level_elements}
use Rattle.doc_places.proofs.lists.Lists.push.Given as goal

-- the lists of the levels so far were put
abbrev pub invariant-loop-level : goal.invariant-loop-level
invariant-loop-level l = record {
  is : l.path ≡ l.fn.path ++ level_elements l.self l.level;
  few : length l.path ≤ length l.fn.path + 2 * l.level;
}
