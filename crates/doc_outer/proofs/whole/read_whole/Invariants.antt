use Rattle.std.proofs.Common.{◌-◌, ◌≡◌, ◌≤◌, length}
use Rattle.doc_outer.specs.Counts.{CountGoesOn}
use Rattle.doc_outer.specs.Held.{Told}
use Rattle.doc_outer.proofs.WholeLemmas.{IsFront}
use Rattle.doc_outer.proofs.whole.read_whole.Given as goal

-- what was taken so far is the front of what the name holds
abbrev pub invariant-loop-taken : goal.invariant-loop-taken
invariant-loop-taken g l =
    let held = g.S.Shelf.held in let faults = g.S.Shelf.faults in let missed = g.S.Shelf.missed in
    let put_faults = g.S.Shelf.put_faults in
    record {
      count : length l.bytes ≡ l.taken;
      part : length l.part ≡ 65536;
      limit : l.taken ≤ 7143937;
      kept : held l.shelf ≡ held l.fn.shelf;
      front : Told (held l.fn.shelf) l.name (IsFront l.bytes);
      faults : CountGoesOn (faults l.fn.shelf) (faults l.shelf);
      missed : CountGoesOn (missed l.fn.shelf) (missed l.shelf);
      put_faults : put_faults l.shelf ≡ put_faults l.fn.shelf;
    }

abbrev pub decreases-loop-taken : goal.decreases-loop-taken
decreases-loop-taken g l = 7143937 - l.taken
