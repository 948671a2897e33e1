use Rattle.std.specs.Prelude.{⊤}
use Rattle.doc_model.specs.declared.item.Item.{Item}
use Rattle.full_save.proofs.ColumnLists.{AreListedIn}
use Rattle.full_save.specs.Lists.{ref_entry}
use Rattle.full_save.proofs.lists.add_ref_run.Given as goal

abbrev pub invariant-loop-cp : goal.invariant-loop-cp
invariant-loop-cp l =
    AreListedIn (λ (item : Item). item.note) ref_entry 0 (λ text. ⊤) l.run.value l.place l.run.count l.cp l.initial.refs
    l.refs
