-- Texts that are windows of columns which they share.
use Rattle.std.specs.Prelude.{◌≡◌, ℕ, ◌≤◌, List, length, slice_range, take}
use Rattle.run_lists.specs.declared.runs.Run.{Run}
use Rattle.run_lists.specs.Spread.{expanded, total_len}
use Rattle.run_lists.specs.Places.{IsAtRunBegin}
use Rattle.doc_model.specs.declared.item.Item.{Item}
use Rattle.doc_columns.specs.declared.walk.Walk.{Walk}
use Rattle.doc_columns.specs.declared.window.Whole.{Whole}
use Rattle.doc_columns.specs.declared.window.Span.{Span}
use Rattle.doc_columns.specs.declared.window.Spans.{Spans}
use Rattle.doc_columns.specs.Columns.{items_of, AreColumns}

-- the entries of a span
abbrev pub in_span : {A : Type 0} → List A → Span → List A
in_span xs span = slice_range xs span.from span.to

-- the span is within so many entries
pub record IsSpan (len : ℕ) (span : Span) : Type 0 where
  pub ordered : span.from ≤ span.to
  pub within : span.to ≤ len

-- the items of whole columns
abbrev pub column_items : Whole → List Item
column_items whole = items_of whole.units.items (expanded whole.chps.items) (expanded whole.attachments.items)

-- the items of the spans
abbrev pub window_items : Whole → Spans → List Item
window_items whole spans =
    items_of (in_span whole.units.items spans.units) (expanded (in_span whole.chps.items spans.chps))
    (expanded (in_span whole.attachments.items spans.attachments))

-- whole columns are of one length, and their items well formed
abbrev pub AreWhole : Whole → Type 0
AreWhole whole = AreColumns whole.units.items (expanded whole.chps.items) (expanded whole.attachments.items)

-- the spans are within the columns, of one length, and their items well formed
pub record IsWindow (whole : Whole) (spans : Spans) : Type 0 where
  pub units_in : IsSpan (length whole.units.items) spans.units
  pub chps_in : IsSpan (length whole.chps.items) spans.chps
  pub attachments_in : IsSpan (length whole.attachments.items) spans.attachments
  pub are :
      AreColumns (in_span whole.units.items spans.units) (expanded (in_span whole.chps.items spans.chps))
      (expanded (in_span whole.attachments.items spans.attachments))

-- the runs of the span begin and end at the places
pub record IsSpanOf {T : Type 0} (runs : List (Run T)) (from to : ℕ) (span : Span) : Type 0 where
  pub is_span : IsSpan (length runs) span
  pub begins : total_len (take span.from runs) ≡ from
  pub ends : total_len (take span.to runs) ≡ to

-- the walk is at runs of the columns
pub record IsWalkOver (whole : Whole) (walk : Walk) : Type 0 where
  pub at_chps : IsAtRunBegin whole.chps.items walk.chps
  pub at_attachments : IsAtRunBegin whole.attachments.items walk.attachments

-- and not behind the place
pub record IsWalkBefore (walk : Walk) (place : ℕ) : Type 0 where
  pub chps_ahead : walk.chps.begin ≤ place
  pub attachments_ahead : walk.attachments.begin ≤ place

-- whole columns, and a walk over them
pub record IsWholeAt (whole : Whole) (walk : Walk) : Type 0 where
  pub are : AreWhole whole
  pub walk_is : IsWalkOver whole walk
