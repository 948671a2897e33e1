use Rattle.std.proofs.Common.{Some}
use Rattle.std.specs.Prelude.{slice_get}
use Rattle.doc_model.specs.declared.item.Item.{Item}
use Rattle.further_notes.proofs.FormLemmas.{mark_maps}
use Rattle.further_notes.proofs.forms.own_marks.Goals as goal

pub add-requires-clause-maps : goal.add-requires-clause-maps
add-requires-clause-maps c =
    mark_maps c.args.text.now c.in_ok-item.item c.as_note_mark.result c.len.ensures.formed c.in_ok-item.ensures
    c.as_note_mark.ensures
