use Rattle.std.proofs.Common.{◌≡◌}
use Rattle.std.specs.Ordering.{nat_cmp}
use Rattle.std.specs.Cmp.Lexicographic.{slice_cmp}
use Rattle.std.specs.FinMap.{find}
use Rattle.std.specs.VecDeque.Iter.{deque_iter_rest}
use Rattle.doc_outer.specs.Held.{file_at}
use Rattle.doc_outer.specs.Store.{entry_files}
use Rattle.doc_outer.proofs.mem_shelf.newest.Given as goal

-- the name is to be found among the entries that are left
abbrev pub invariant-loop-key : goal.invariant-loop-key
invariant-loop-key l = file_at (entry_files l.entries.items) l.name ≡ find (slice_cmp nat_cmp) l.name (deque_iter_rest
    l.key-iterator)
