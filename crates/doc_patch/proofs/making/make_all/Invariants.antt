use Rattle.std.proofs.Common.{◌≡◌, drop}
use Rattle.doc_patch.specs.Changes.{all_changed}
use Rattle.doc_patch.specs.Makes.{CanMakeAll}
use Rattle.doc_patch.proofs.making.make_all.Given as goal

-- the changes that are left can be made, and give what all give
abbrev pub invariant-loop-k : goal.invariant-loop-k
invariant-loop-k l = record {
  can : CanMakeAll (drop l.k l.changes) l.made;
  gives : all_changed (drop l.k l.changes) l.made ≡ all_changed l.changes l.fn.document;
}
