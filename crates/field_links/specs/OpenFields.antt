-- [MS-DOC] Fields: 0x13, an instruction, perhaps 0x14 and a result, 0x15. Which fields are open behind the front of a
-- text, and which of its items are shown for a reader.
use Rattle.std.specs.Prelude.{ℕ, ◌+◌, ◌-◌, ◌==◌, nat_lt, nat_le, Bool, false, ◌&&◌, List, [], ◌∷◌, ◌++◌, length, take}
use Rattle.std.specs.Prelude.{Option, None, Some, is_some, if◌then◌else◌}
use Rattle.std.specs.List.{find, list_all}
use Rattle.doc_model.specs.declared.item.Item.{Item}
use Rattle.plain_doc.specs.Nesting.{most_open}
use Rattle.field_links.specs.declared.places.OpenField.{OpenField}

-- a field begins at the place
-- Profile: where as many are open as a text may have at once, it is not counted
abbrev pub field_begun : ℕ → ℕ → List OpenField → List OpenField
field_begun place kind fields =
    if nat_lt (length fields) most_open then fields ++ record { kind = kind; began = place; result = None } ∷ [] else
    fields

-- the result of the innermost one begins behind the place
abbrev pub result_begun : ℕ → List OpenField → List OpenField
result_begun place [] = []
result_begun place (field ∷ []) = record field { result = Some (place + 1) } ∷ []
result_begun place (field ∷ inner ∷ more) = field ∷ result_begun place (inner ∷ more)

-- the innermost one ends
abbrev pub inner_ended : List OpenField → List OpenField
inner_ended fields = take (length fields - 1) fields

-- the fields that are open behind a unit, which is a field character where it has a byte
abbrev pub after_unit : ℕ → ℕ → Option ℕ → List OpenField → List OpenField
after_unit place unit None fields = fields
after_unit place unit (Some byte) fields =
    if unit == 0x13 then field_begun place byte fields else
    if unit == 0x14 then result_begun place fields else
    if unit == 0x15 then inner_ended fields else fields

-- the fields that are open behind items, the first of which is at the place
abbrev pub open_after : ℕ → List Item → List OpenField → List OpenField
open_after place [] fields = fields
open_after place (item ∷ items) fields = open_after (place + 1) items (after_unit place item.unit item.fld fields)

-- those that are open behind the front of a text, the outermost first
abbrev pub open_fields : List Item → List OpenField
open_fields front = open_after 0 front []

-- no field is open whose result has not begun
abbrev pub is_in_results : List OpenField → Bool
is_in_results fields = list_all (λ field. is_some field.result) fields

-- the result began at the place or behind it
abbrev pub has_begun : ℕ → Option ℕ → Bool
has_begun begin None = false
has_begun begin (Some result) = nat_le begin result

-- [MS-DOC] flt: the type of HYPERLINK is 0x58
abbrev pub is_link : ℕ → OpenField → Bool
is_link begin field = field.kind == 0x58 && has_begun begin field.result

-- the outermost of the open hyperlinks whose result began at the place or behind it
abbrev pub hyperlink_in : ℕ → List OpenField → Option OpenField
hyperlink_in begin fields = find (is_link begin) fields
