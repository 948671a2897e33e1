use Rattle.std.specs.Prelude.{◌≡◌, map}
use Rattle.doc_model.specs.declared.item.Item.{Item}
use Rattle.doc_model.specs.Collected.{field_character}
use Rattle.full_save.specs.Lists.{field_entry}
use Rattle.full_save.proofs.ColumnLists.{AreListedIn}
use Rattle.full_save.proofs.lists.add_field_run.Given as goal

abbrev pub invariant-loop-at : goal.invariant-loop-at
invariant-loop-at l =
    AreListedIn field_character field_entry l.cp (λ text. l.units ≡ map (λ (item : Item). item.unit) text) l.run.value
    l.place
    l.run.count l.at l.initial.fields l.fields
