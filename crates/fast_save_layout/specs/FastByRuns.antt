-- Fast saves by the runs of their pages: where the units that are in the old stream are bounded there, all are
-- bounded in the new one.
use Rattle.std.specs.Prelude.{◌≡◌, ◌<◌, ℕ, List, Bool, Some, slice_get}
use Rattle.piece_table.specs.Piece.{UnitPlace, flat_pieces}
use Rattle.doc_model.specs.Document.{IsFormedText}
use Rattle.doc_model.specs.Formed.{IsFormed}
use Rattle.save_laws.specs.ByRuns.{IsBounded, AreBounded, text_ends}
use Rattle.save_laws.specs.Slots.{document_slots}
use Rattle.fast_save_layout.specs.Saves.{FastSave}
use Rattle.fast_save_layout.specs.Appended.{old_stream, fast_saved_text}
use Rattle.fast_save_layout.specs.Kept.{CanBeFastSaved}
use Rattle.fast_save_layout.specs.Answers.{IsAppended}

-- whether the unit of each CP ends a paragraph
abbrev pub ends_in : FastSave → List Bool
ends_in save = text_ends (document_slots save.document save.ends)

-- each unit that is before the added text is bounded in the old stream
abbrev pub AreBoundedBefore : FastSave → Type 0
AreBoundedBefore save =
    (k : ℕ) (place : UnitPlace) (end : Bool) → slice_get (flat_pieces save.pieces) k ≡ Some place →
    slice_get (ends_in save) k ≡ Some end → place.at < save.base → IsBounded (old_stream save) place.at place.wide end

abbrev pub FastSavesAreBounded : Type 0
FastSavesAreBounded =
    (save : FastSave) (file : List ℕ) → CanBeFastSaved save → IsFormed save.document → IsFormedText save.added →
    (made : IsAppended save file) → AreBoundedBefore save →
    AreBounded (fast_saved_text save made.clx).stream (flat_pieces save.pieces) (ends_in save)
