-- Where the links of a document lead, and what its bookmarks are called.
use Rattle.std.specs.Prelude.{ℕ, zero, suc, nat_le, Bool, not, ◌&&◌, ◌==◌, List, [], map, length, slice_get, slice_range}
use Rattle.std.specs.Prelude.{Option, None, option_map, slice_index_or, if◌then◌else◌}
use Rattle.std.specs.List.{list_all}
use Rattle.doc_model.specs.declared.item.Item.{Item}
use Rattle.doc_model.specs.declared.document.Document.{Document}
use Rattle.field_links.specs.Instructions.{target_of}
use Rattle.field_links.specs.Urls.{url_text}
use Rattle.view_places.specs.declared.element.Link.{Link}

-- the note with this number, from 1, or the main text
abbrev pub numbered_text : Document → ℕ → List Item
numbered_text document zero = document.main
numbered_text document (suc k) = slice_index_or document.notes k []

abbrev pub note_text_units : Document → ℕ → List ℕ
note_text_units document note = map (λ item. item.unit) (numbered_text document note)

-- the units between two places; none where they are no places of the text
abbrev pub between : List ℕ → ℕ → ℕ → List ℕ
between units begin end =
    if nat_le begin end && nat_le end (length units) then slice_range units begin end else []

abbrev pub instruction_of : Document → Link → List ℕ
instruction_of document link = between (note_text_units document link.note) link.begin link.end

-- [MS-DOC] the unit that begins a field
abbrev pub field_begin : ℕ
field_begin = 0x13

-- no field begins in an instruction
abbrev pub begins_no_field : List ℕ → Bool
begins_no_field instruction = list_all (λ unit. not (unit == field_begin)) instruction

-- where the field of an instruction leads; Profile: nowhere where another field begins in it
abbrev pub url_in : List ℕ → Option (List ℕ)
url_in instruction = if begins_no_field instruction then url_text (target_of instruction) else None

-- the name of the bookmark with this number
abbrev pub bookmark_name : Document → ℕ → Option (List ℕ)
bookmark_name document number = option_map (λ bookmark. bookmark.name) (slice_get document.bookmarks number)
