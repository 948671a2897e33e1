-- A text while it is read and put: where the reading is, and what was put of a paragraph.
use Rattle.std.specs.Prelude.{◌≡◌, ℕ, ◌+◌, ◌<◌, ◌≤◌, Bool, is_some, List, [], ◌∷◌, ◌++◌, length, take, drop}
use Rattle.std.specs.Prelude.{Option, Some, None, slice_get, if◌then◌else◌, false, ◌==◌, ◌-◌, ⊤}
use Rattle.std.specs.List.{count_by}
use Rattle.doc_model.specs.declared.item.Item.{Item}
use Rattle.doc_columns.specs.Attached.{attached_of}
use Rattle.doc_columns.specs.declared.attached.Attached.{Attached}
use Rattle.char_formats.specs.declared.format.CharFormat.{CharFormat}
use Rattle.field_links.specs.OpenFields.{open_fields, after_unit, is_in_results}
use Rattle.doc_outer.specs.declared.sink.Sink.{Ghosts}
use Rattle.page_out.specs.declared.page.Page.{Page}
use Rattle.doc_view.specs.declared.paragraph.Saying.{Saying}
use Rattle.doc_view.specs.declared.reading.Manner.{Manner}
use Rattle.doc_view.specs.declared.reading.Seen.{Seen}
use Rattle.doc_view.specs.declared.references.Reference.{Reference}
use Rattle.doc_view.specs.declared.text.Course.{Course}
use Rattle.doc_view.specs.Kept.{KeptReferences}
use Rattle.doc_view.specs.Lines.{Says}
use Rattle.page_out.specs.Printed.{Prints}
use Rattle.doc_view.specs.Seen.{Formats, reference_kind, front_of, references_in, note_unit}

-- the item refers to a note
abbrev pub has_reference : Manner → Item → Bool
has_reference manner item = is_some (reference_kind manner item.note)

-- what the items before its place come to, and room for the references of those from there on
pub record IsCourse (manner : Manner) (items : List Item) (course : Course) : Type 0 where
  pub within : course.place ≤ length items
  pub fields : course.fields ≡ open_fields (take course.place items)
  pub front : course.front ≡ front_of manner (take course.place items)
  pub room : count_by (has_reference manner) (drop course.place items) ≤ course.references.room

-- one reference more, or none
abbrev pub with_reference : KeptReferences → Option Reference → KeptReferences
with_reference kept None = kept
with_reference kept (Some reference) = record { list = kept.list ++ reference ∷ []; room = kept.room - 1 }

abbrev pub is_numbered : Option Reference → Bool
is_numbered None = false
is_numbered (Some reference) = is_some reference.number

-- behind an item with this unit, this beside it and this reference
abbrev pub course_after : Course → ℕ → Attached → Option Reference → Course
course_after course unit attached reference =
    let fields = after_unit course.place unit attached.fld course.fields in
    record course {
      place = course.place + 1;
      fields = fields;
      front = record {
        in_results = is_in_results fields;
        behind_label = unit == note_unit;
        numbered = course.front.numbered + (if is_numbered reference then 1 else 0);
      };
      references = with_reference course.references reference;
    }

-- there is room for a reference, where there is one
abbrev pub HasRoomFor : KeptReferences → Option Reference → Type 0
HasRoomFor kept None = ⊤
HasRoomFor kept (Some reference) = 1 ≤ kept.room

-- what was put of a page, and of a paragraph of it, and the references that were met
pub record CourseAt (K : Type 0) : Type 0 where
  pub out : K
  pub page : Page
  pub saying : Saying
  pub references : List Reference

-- items were put
pub record PutsItems {K : Type 0} (sink : Ghosts K) (before after : CourseAt K) (seen : List Seen) : Type 0 where
  pub text : List ℕ
  pub prints : Prints sink before.out before.page after.out after.page text
  pub says : Says before.saying seen after.saying text
  pub references : after.references ≡ before.references ++ references_in seen

-- the characters of these items have this format in a paragraph of the style
abbrev pub HasFormat : Formats → ℕ → List Item → ℕ → ℕ → CharFormat → Type 0
HasFormat formats istd items from until format =
    (k : ℕ) (item : Item) → from ≤ k → k < until → slice_get items k ≡ Some item → formats istd item.chp ≡ format

-- they have this beside them
abbrev pub HasAttached : List Item → ℕ → ℕ → Attached → Type 0
HasAttached items from until attached =
    (k : ℕ) (item : Item) → from ≤ k → k < until → slice_get items k ≡ Some item → attached_of item ≡ attached
