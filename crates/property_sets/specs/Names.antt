-- [MS-OLEPS] Dictionary: names of properties.
use Rattle.std.specs.Prelude.{ℕ, zero, suc, ◌+◌, ◌-◌, ◌*◌, ◌%◌, ◌==◌, Bool, if◌then◌else◌, nat_le, List, [], ◌∷◌}
use Rattle.std.specs.Prelude.{length, find, slice_range, Option, Some, None}
use Rattle.doc_bits.specs.Number.{u32_at}
use Rattle.property_sets.specs.declared.dictionary.PropertyName.{PropertyName}
use Rattle.property_sets.specs.declared.set.PropertyPair.{PropertyPair}
use Rattle.property_sets.specs.Sets.{pairs_of}

-- [MS-OLEPS] DictionaryEntry: PropertyIdentifier, Length, and a name of so many characters: of one byte each, or of
-- two in a set of the code page 1200 (CP_WINUNICODE)
abbrev pub entry_name_len : List ℕ → Bool → ℕ → ℕ
entry_name_len set wide at = (if wide then 2 else 1) * u32_at set (at + 4)

-- the zeros behind a name of two bytes a character, up to a multiple of 4
abbrev pub name_pad : Bool → ℕ → ℕ
name_pad wide len = if wide then (4 - len % 4) % 4 else 0

abbrev pub has_entry : List ℕ → Bool → ℕ → Bool
has_entry set wide at = nat_le (at + 8 + entry_name_len set wide at) (length set)

abbrev pub property_name_at : List ℕ → Bool → ℕ → PropertyName
property_name_at set wide at =
    record { id = u32_at set at; bytes = slice_range set (at + 8) (at + 8 + entry_name_len set wide at) }

-- where the entry behind one begins
abbrev pub next_entry : List ℕ → Bool → ℕ → ℕ
next_entry set wide at = at + 8 + entry_name_len set wide at + name_pad wide (entry_name_len set wide at)

-- so many entries from a place on; those behind one that leaves the set are not read
unfoldable pub names_at : List ℕ → Bool → ℕ → ℕ → List PropertyName
names_at set wide zero at = []
names_at set wide (suc n) at =
    if has_entry set wide at then property_name_at set wide at ∷ names_at set wide n (next_entry set wide at) else []

-- the entries of a dictionary at an offset: NumEntries of them
abbrev pub dictionary_names : List ℕ → Bool → ℕ → List PropertyName
dictionary_names set wide offset =
    if nat_le (offset + 4) (length set) then names_at set wide (u32_at set offset) (offset + 4) else []

-- the names of the dictionary that the first pair of the property 0 names
abbrev pub names_by : List ℕ → Bool → Option PropertyPair → List PropertyName
names_by set wide None = []
names_by set wide (Some pair) = dictionary_names set wide pair.offset

abbrev pub names_of_set : List ℕ → Bool → List PropertyName
names_of_set set wide = names_by set wide (find (λ pair. pair.id == 0) (pairs_of set))
