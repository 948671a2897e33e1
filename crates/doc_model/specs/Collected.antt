-- What the items of a text have, listed by their CPs, and the CPs that cut texts which are one after the other.
use Rattle.std.specs.Prelude.{ℕ, ◌+◌, Bool, true, false, List, [], ◌∷◌, length, map, option_map, Option, Some, None}
use Rattle.std.specs.List.{flat_map}
use Rattle.prop_map.specs.Settings.{Properties}
use Rattle.doc_parts.specs.declared.lists.Fld.{Fld}
use Rattle.doc_parts.specs.declared.lists.NoteRef.{NoteRef}
use Rattle.doc_model.specs.declared.item.Item.{Item}
use Rattle.doc_model.specs.declared.item.NoteKind.{NoteKind}
use Rattle.doc_model.specs.declared.item.NoteKind.TheVariants.{Auto, Custom}

-- texts one after the other
abbrev pub joined_texts : List (List Item) → List Item
joined_texts texts = flat_map (λ text. text) texts

-- an entry of a CP, where there is something
abbrev pub entry_before : {A : Type 0} → Option A → ℕ → List (ℕ × A) → List (ℕ × A)
entry_before None cp rest = rest
entry_before (Some value) cp rest = (cp, value) ∷ rest

-- of items that are from a CP on, the CPs of those that have such a thing, each with what it has
unfoldable pub collected : {A : Type 0} → (Item → Option A) → ℕ → List Item → List (ℕ × A)
collected what cp [] = []
collected what cp (item ∷ items) = entry_before (what item) cp (collected what (cp + 1) items)

-- the sections of the main text, by the CPs of their last items
abbrev pub sections_of : List Item → List (ℕ × Properties)
sections_of main = collected (λ item. item.sect) 0 main

-- the unit and the byte of a field character
abbrev pub field_character : Item → Option (ℕ × ℕ)
field_character item = option_map (λ byte. (item.unit, byte)) item.fld

-- [MS-DOC] Fld: the field characters of a text
abbrev pub fields_of : List Item → List Fld
fields_of text = map (λ entry. record { cp = entry.0; unit = entry.1.0; byte = entry.1.1 }) (collected field_character 0
    text)

abbrev pub is_auto : NoteKind → Bool
is_auto Auto = true
is_auto Custom = false

-- the references of the main text to notes
abbrev pub refs_of : List Item → List NoteRef
refs_of main = map (λ entry. record { cp = entry.0; auto = is_auto entry.1 }) (collected (λ item. item.note) 0 main)

-- the CPs at which texts begin that are from a CP on, and the one where the last of them ends
unfoldable pub cuts_from : ℕ → List (List Item) → List ℕ
cuts_from cp [] = cp ∷ []
cuts_from cp (text ∷ texts) = cp ∷ cuts_from (cp + length text) texts
