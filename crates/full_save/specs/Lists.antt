-- The field characters of items that are somewhere in a story, and lists that grow run by run.
use Rattle.std.specs.Prelude.{◌≡◌, ℕ, ◌+◌, Option, List, [], ◌++◌, map, drop}
use Rattle.run_lists.specs.declared.runs.Run.{Run}
use Rattle.doc_parts.specs.declared.lists.Fld.{Fld}
use Rattle.doc_parts.specs.declared.lists.NoteRef.{NoteRef}
use Rattle.doc_model.specs.declared.item.Item.{Item}
use Rattle.doc_model.specs.declared.item.NoteKind.{NoteKind}
use Rattle.doc_model.specs.Collected.{collected, field_character, is_auto}
use Rattle.doc_columns.specs.declared.attached.Attached.{Attached}
use Rattle.doc_columns.specs.Attached.{attached_of}
use Rattle.full_save.specs.Alike.{HaveAlike}

-- the entry of a field character, and of a reference
abbrev pub field_entry : ℕ × (ℕ × ℕ) → Fld
field_entry entry = record { cp = entry.0; unit = entry.1.0; byte = entry.1.1 }

abbrev pub ref_entry : ℕ × NoteKind → NoteRef
ref_entry entry = record { cp = entry.0; auto = is_auto entry.1 }

-- those of items that are from a CP on
abbrev pub fields_from : ℕ → List Item → List Fld
fields_from cp items = map (λ entry. record { cp = entry.0; unit = entry.1.0; byte = entry.1.1 }) (collected
    field_character
    cp items)

-- a list has what the items before a place have, which are from a CP on, behind what it had
pub record IsListedUpTo {A B : Type 0} (what : Item → Option A) (entry : ℕ × A → B) (from : ℕ) (items : List Item)
    (i : ℕ) (old new : List B) : Type 0 where
  pub rest : new ++ map entry (collected what (from + i) (drop i items)) ≡ old ++ map entry (collected what from items)

-- the list of field characters goes on by a run, which begins at a place of a text that is from a CP on
abbrev pub FieldsGoOn : List ℕ → ℕ → Run Attached → ℕ → List Fld → List Fld → Type 0
FieldsGoOn units cp run place old new =
    (text : List Item) (start : List Fld) → units ≡ map (λ item. item.unit) text →
    HaveAlike attached_of run.value text place run.count → IsListedUpTo field_character field_entry cp text place start
    old →
    IsListedUpTo field_character field_entry cp text (place + run.count) start new

-- so does the list of references
abbrev pub RefsGoOn : Run Attached → ℕ → List NoteRef → List NoteRef → Type 0
RefsGoOn run place old new =
    (text : List Item) → HaveAlike attached_of run.value text place run.count →
    IsListedUpTo (λ item. item.note) ref_entry 0 text place [] old →
    IsListedUpTo (λ item. item.note) ref_entry 0 text (place + run.count) [] new
