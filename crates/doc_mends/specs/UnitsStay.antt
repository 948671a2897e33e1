-- What mends do to the units of texts, by what is printed of them: the unit of a reference that is cut goes, a cell
-- mark in a row that became paragraphs is a paragraph mark, and a text that got an end has a paragraph mark behind it.
-- No other mend changes a unit. Each place is that of the unit before any mend.
use Rattle.std.specs.Prelude.{◌≡◌, ℕ, ◌+◌, ◌==◌, Bool, true, false, ◌&&◌, nat_le, nat_lt, List, [], ◌∷◌, ◌++◌, length}
use Rattle.std.specs.Prelude.{map, Option, option_map, slice_index, if◌then◌else◌}
use Rattle.std.specs.List.{flat_map, list_any}
use Rattle.doc_bits.specs.declared.places.Story.{Story}
use Rattle.doc_bits.specs.declared.places.Story.TheVariants.{Main, Note, Head}
use Rattle.doc_parts.specs.Tabulated.{tabulate}
use Rattle.text_codes.specs.Paragraph.{paragraph_mark}
use Rattle.text_losses.specs.declared.features.Reference.{Reference}
use Rattle.doc_model.specs.declared.document.Document.{Document}
use Rattle.doc_patch.specs.Places.{story_text}
use Rattle.doc_losses.specs.References.{Names}
use Rattle.doc_mends.specs.declared.mends.WrongMark.{WrongMark}
use Rattle.doc_mends.specs.declared.mends.BrokenRow.{BrokenRow}
use Rattle.doc_mends.specs.declared.mends.Mend.{Mend}
use Rattle.doc_mends.specs.declared.mends.Mend.TheVariants.{DropBase, NormalMark, PlainRow}
use Rattle.doc_mends.specs.declared.mends.Mend.TheVariants.{CutReference, EndText}
use Rattle.doc_mends.specs.PlainRows.{plain_unit}
use Rattle.doc_mends.specs.Mending.{IsMended}

-- the mends of a document by their kinds, in the order in which they are printed
pub record MendLists : Type 0 where
  pub bases : List ℕ
  pub marks : List WrongMark
  pub rows : List BrokenRow
  pub cut : List Reference
  pub ended : List Story

abbrev pub mends_in_order : MendLists → List Mend
mends_in_order lists =
    map DropBase lists.bases
    ++ (map NormalMark lists.marks
    ++ (map PlainRow lists.rows ++ (map CutReference lists.cut ++ map EndText lists.ended)))

-- ---- the units of a text

abbrev pub is_story : Story → Story → Bool
is_story Main Main = true
is_story Main (Note number) = false
is_story Main (Head number) = false
is_story (Note number) Main = false
is_story (Note one) (Note other) = one == other
is_story (Note one) (Head other) = false
is_story (Head number) Main = false
is_story (Head one) (Note other) = false
is_story (Head one) (Head other) = one == other

-- a reference is at this place of the text; a row has it
abbrev pub is_reference_at : Story → ℕ → Reference → Bool
is_reference_at story at reference = is_story reference.story story && reference.at == at

abbrev pub has_place : Story → ℕ → BrokenRow → Bool
has_place story at row = is_story row.story story && (nat_le row.from at && nat_lt at (row.from + row.len))

-- what is left of the unit at a place
abbrev pub unit_left : MendLists → Story → (at unit : ℕ) → List ℕ
unit_left lists story at unit =
    if list_any (is_reference_at story at) lists.cut then [] else
    if list_any (has_place story at) lists.rows then plain_unit unit ∷ [] else unit ∷ []

-- and of all units of a text
abbrev pub units_left : MendLists → Story → List ℕ → List ℕ
units_left lists story units =
    flat_map (λ left. left) (tabulate (λ at. unit_left lists story at (slice_index units at)) (length units))
    ++ (if list_any (λ ended. is_story ended story) lists.ended then paragraph_mark ∷ [] else [])

-- ---- the units of a document

-- those of a text, where it is there
abbrev pub units_of : Document → Story → Option (List ℕ)
units_of document story = option_map (map (λ item. item.unit)) (story_text document story)

-- the texts of the mended document have the units that the mends leave
pub record LeavesUnits (meant mended : Document) (mends : List Mend) : Type 0 where
  pub lists : MendLists
  pub printed : mends ≡ mends_in_order lists
  pub units : (story : Story) → units_of mended story ≡ option_map (units_left lists story) (units_of meant story)

abbrev pub UnitsStay : Type 0
UnitsStay =
    (names : Names) (meant mended : Document) (mends : List Mend) → IsMended names meant mended mends →
    LeavesUnits meant mended mends
