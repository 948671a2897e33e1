use Rattle.std.specs.Prelude.{◌≡◌, take}
use Rattle.run_lists.specs.Spread.{total_len}
use Rattle.doc_model.specs.Collected.{field_character}
use Rattle.full_save.specs.Lists.{IsListedUpTo, field_entry}
use Rattle.full_save.proofs.lists.add_fields.Given as goal

abbrev pub invariant-loop-run : goal.invariant-loop-run
invariant-loop-run l =
    (l.place ≡ total_len (take l.run-index l.run-items)) × IsListedUpTo field_character field_entry l.fn.cp l.fn.text
    l.place
    l.fn.fields l.fields
