-- Rows can get their cells, and what stays as it was.
use Rattle.std.proofs.Common.{◌≡◌, ◌∙◌, sym, ap, subst, refl, ℕ, ◌+◌, ◌≤◌, List, [], ◌∷◌, length, map, take, All, arith}
use Rattle.std.proofs.lemmas.List.Elements.{All-nil, All-cons, All-head, All-tail, All-take}
use Rattle.std.specs.FinMap.{empty, insert}
use Rattle.doc_bits.specs.Number.{AreBytes}
use Rattle.doc_bits.proofs.Public.{one_byte}
use Rattle.doc_bits.specs.declared.places.Story.{Story}
use Rattle.doc_bits.specs.declared.places.Story.TheVariants.{Main, Note, Head}
use Rattle.document_bookmarks.specs.Bookmarks.{AreFormedBookmarks}
use Rattle.prop_map.specs.Settings.{Properties}
use Rattle.prop_map.specs.Formed.{IsMapEntry, IsPropertyMap, character_groups, paragraph_groups}
use Rattle.prop_map.specs.Modifiers.{IsFormedModifier}
use Rattle.prop_map.proofs.Public.{IsPropertyMap-empty, stay_formed}
use Rattle.doc_model.specs.declared.document.Document.{Document}
use Rattle.doc_model.specs.Marks.{HasFormedBookmarks}
use Rattle.doc_patch.specs.Changes.{changed, all_changed, modified_item}
use Rattle.doc_patch.specs.Makes.{CanMakeAll}
use Rattle.doc_patch.specs.Places.{story_text, HasText, HasRange}
use Rattle.doc_mends.specs.UnitsStay.{units_of}
use Rattle.doc_mends.proofs.Public.{length-map_range, modified_units, texts_kept, range_kept}
use Rattle.huge_papx.specs.declared.rows.DefinedRow.{DefinedRow}
use Rattle.huge_papx.specs.Rows.{row_set, defining}
use Rattle.huge_papx.specs.Defined.{definition_change}
use Rattle.huge_papx.proofs.RowLemmas.{IsRowOf}

-- ---- the modifier

on_entry : (code : ℕ) → IsMapEntry paragraph_groups (code, 1 ∷ []) → (map : Properties) →
    IsPropertyMap paragraph_groups map → IsPropertyMap paragraph_groups (insert map code (1 ∷ []))
on_entry code entry map formed = stay_formed paragraph_groups map (code, 1 ∷ []) formed entry

in_table : IsMapEntry paragraph_groups (0x2416, 1 ∷ [])
in_table = record {
  property = record {
    entry = record { some = omega arith; word = omega arith; size = refl };
    held = refl;
    sets = refl;
  };
  bytes = one_byte 1 (omega arith);
}

row_end : IsMapEntry paragraph_groups (0x2417, 1 ∷ [])
row_end = record {
  property = record {
    entry = record { some = omega arith; word = omega arith; size = refl };
    held = refl;
    sets = refl;
  };
  bytes = one_byte 1 (omega arith);
}

table_cells : (cells : List ℕ) → AreBytes cells → length cells ≤ 480 → IsMapEntry paragraph_groups (0xD608, cells)
table_cells cells bytes short = record {
  property = record {
    entry = record { some = omega arith; word = omega arith; size = omega (arith, short) };
    held = refl;
    sets = refl;
  };
  bytes = bytes;
}

pub defining_formed : (cells : List ℕ) → AreBytes cells → length cells ≤ 480 → IsFormedModifier (defining cells)
defining_formed cells bytes short = record {
  chp = IsPropertyMap-empty character_groups;
  pap = stay_formed paragraph_groups _ (0xD608, cells)
      (on_entry 0x2417 row_end _ (on_entry 0x2416 in_table empty (IsPropertyMap-empty paragraph_groups)))
      (table_cells cells bytes short);
}

-- ---- the changes can be made

row_stays : (document : Document) (row other : DefinedRow) → IsRowOf document row → IsRowOf document other →
    IsRowOf (changed (definition_change row) document) other
row_stays document row other here is = record {
  there = range_kept (story_text document other.story) (story_text (changed (definition_change row) document)
      other.story)
      other.at (other.at + 1)
      (texts_kept document row.story other.story row.at (row.at + 1) (modified_item (defining row.cells)) here.there)
      is.there;
  short = is.short;
}

rows_stay : (document : Document) (row : DefinedRow) (rows : List DefinedRow) → IsRowOf document row →
    All (IsRowOf document) rows → All (IsRowOf (changed (definition_change row) document)) rows
rows_stay document row [] here are = All-nil (IsRowOf (changed (definition_change row) document))
rows_stay document row (other ∷ rows) here are =
    All-cons (IsRowOf (changed (definition_change row) document)) other rows
    (row_stays document row other here (All-head (IsRowOf document) other rows are))
    (rows_stay document row rows here (All-tail (IsRowOf document) other rows are))

pub can_define : (rows : List DefinedRow) (document : Document) → All (IsRowOf document) rows →
    All (λ (row : DefinedRow). AreBytes row.cells) rows → CanMakeAll (map definition_change rows) document
can_define [] document are bytes = tt
can_define (row ∷ rows) document are bytes =
    let Bytes : DefinedRow → Type 0 = λ r. AreBytes r.cells in
    let here = All-head (IsRowOf document) row rows are in
    let rest = All-tail (IsRowOf document) row rows are in (
      (here.there, defining_formed row.cells (All-head Bytes row rows bytes) here.short),
      can_define rows (changed (definition_change row) document) (rows_stay document row rows here rest)
          (All-tail Bytes row rows bytes),
    )

-- ---- bookmarks stay formed

main_stays : (document : Document) (story : Story) (at : ℕ) (cells : List ℕ) →
    HasText document story (HasRange at (at + 1)) →
    length (changed (definition_change (record { story = story; at = at; cells = cells })) document).main
    ≡ length document.main
main_stays document Main at cells there =
    length-map_range (modified_item (defining cells)) document.main at (at + 1) there
main_stays document (Note n) at cells there = refl
main_stays document (Head n) at cells there = refl

bookmarks_stay : (document : Document) (story : Story) (at : ℕ) (cells : List ℕ) →
    (changed (definition_change (record { story = story; at = at; cells = cells })) document).bookmarks
    ≡ document.bookmarks
bookmarks_stay document Main at cells = refl
bookmarks_stay document (Note n) at cells = refl
bookmarks_stay document (Head n) at cells = refl

one_formed : (document : Document) (row : DefinedRow) → IsRowOf document row → HasFormedBookmarks document →
    HasFormedBookmarks (changed (definition_change row) document)
one_formed document row here formed =
    let main = main_stays document row.story row.at row.cells here.there in
    let marks = bookmarks_stay document row.story row.at row.cells in
    subst (λ n. AreFormedBookmarks n (changed (definition_change row) document).bookmarks) (sym main)
    (subst (AreFormedBookmarks (length document.main)) (sym marks) formed)

pub all_formed : (rows : List DefinedRow) (document : Document) → All (IsRowOf document) rows →
    HasFormedBookmarks document → HasFormedBookmarks (all_changed (map definition_change rows) document)
all_formed [] document are formed = formed
all_formed (row ∷ rows) document are formed =
    let here = All-head (IsRowOf document) row rows are in
    let rest = All-tail (IsRowOf document) row rows are in
    all_formed rows (changed (definition_change row) document) (rows_stay document row rows here rest)
    (one_formed document row here formed)

-- ---- units stay

pub all_units : (rows : List DefinedRow) (document : Document) (story : Story) → All (IsRowOf document) rows →
    units_of (all_changed (map definition_change rows) document) story ≡ units_of document story
all_units [] document story are = refl
all_units (row ∷ rows) document story are =
    let here = All-head (IsRowOf document) row rows are in
    let rest = All-tail (IsRowOf document) row rows are in
    all_units rows (changed (definition_change row) document) story (rows_stay document row rows here rest)
    ∙ modified_units document row.story story row.at (row.at + 1) (defining row.cells) here.there
