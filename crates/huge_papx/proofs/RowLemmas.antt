-- The rows of a document that get their cells are rows of it.
use Rattle.std.specs.Prelude.{slice_get, MatchOption, nat_le, if◌then◌else◌}
use Rattle.std.proofs.Common.{◌≡◌, ◌∙◌, sym, ap, subst, refl, ℕ, ◌+◌, ◌<◌, ◌≤◌, Bool, true, false, List, [], ◌∷◌}
use Rattle.std.proofs.Common.{◌++◌, length, drop, get_or, Option, Some, None, All, arith}
use Rattle.std.specs.Option.{option_and_then, unwrap_or}
use Rattle.std.proofs.lemmas.Bool.{leb-true}
use Rattle.std.proofs.lemmas.List.Elements.{All-append}
use Rattle.std.proofs.lemmas.Option.{slice_get-get_or}
use Rattle.doc_bits.specs.declared.places.Story.{Story}
use Rattle.doc_bits.specs.declared.places.Story.TheVariants.{Main}
use Rattle.doc_model.specs.declared.item.Item.{Item}
use Rattle.doc_model.specs.declared.item.Mark.{Mark}
use Rattle.doc_model.specs.declared.document.Document.{Document}
use Rattle.plain_doc.specs.declared.rules_texts.Side.{Side}
use Rattle.plain_doc.specs.declared.rules_texts.Side.TheVariants.{Notes, Heads}
use Rattle.doc_patch.specs.Places.{story_text, HasText, HasRange}
use Rattle.doc_mends.specs.Sides.{side_name}
use Rattle.deleted_text.specs.declared.ranges.StoryBegins.{StoryBegins}
use Rattle.deleted_text.specs.Ranges.{items_before}
use Rattle.deleted_text.proofs.Public.{all_joined}
use Rattle.huge_papx.specs.declared.definitions.RowDefinition.{RowDefinition}
use Rattle.huge_papx.specs.declared.rows.DefinedRow.{DefinedRow}
use Rattle.huge_papx.specs.Rows.{lacks_cells, is_short_mark, takes_cells, row_with, item_mark_at, defined_row_at}
use Rattle.huge_papx.specs.Rows.{text_rows}
use Rattle.huge_papx.specs.Rows.{texts_rows, document_rows}
use Rattle.doc_mends.proofs.Public.{listed_all}
use Rattle.doc_bits.proofs.Public.{and_first, and_second}

-- a row of a document, with cells that fit a page
pub record IsRowOf (document : Document) (row : DefinedRow) : Type 0 where
  pub there : HasText document row.story (HasRange row.at (row.at + 1))
  pub short : length row.cells ≤ 480

short_cells : (mark : Option Mark) (cells : List ℕ) → is_short_mark mark cells ≡ true → length cells ≤ 480
short_cells None cells is = absurd (cc is)
short_cells (Some mark) cells is =
    let few : nat_le (length cells) 480 ≡ true = and_first (nat_le (length cells) 480) _ is in
    leb-true (length cells) 480 few

found_row : (found : Bool) (here row : DefinedRow) → (if found then Some here else None) ≡ Some row →
    (found ≡ true) × (here ≡ row)
found_row true here row is = (refl, cc is)
found_row false here row is = absurd (cc is)

-- a row of a text
record IsRowIn (story : Story) (at : ℕ) (row : DefinedRow) : Type 0 where
  story_is : row.story ≡ story
  at_is : row.at ≡ at
  short : length row.cells ≤ 480

row_is : (story : Story) (at : ℕ) (mark : Option Mark) (definition : Option RowDefinition) (row : DefinedRow) →
    option_and_then (row_with story at mark) definition ≡ Some row → IsRowIn story at row
row_is story at mark None row is = absurd (cc is)
row_is story at mark (Some definition) row is =
    let here : DefinedRow = record { story = story; at = at; cells = definition.cells } in
    let found = found_row (takes_cells mark definition) here row is in
    subst (IsRowIn story at) found.1 (record {
      story_is = refl;
      at_is = refl;
      short = short_cells mark definition.cells
          (and_second (lacks_cells mark definition) (is_short_mark mark definition.cells) found.0);
    })

row_there : (document : Document) (story : Story) (text : List Item) (at : ℕ) (row : DefinedRow) →
    story_text document story ≡ Some text → at < length text → IsRowIn story at row → IsRowOf document row
row_there document story text at row there low is =
    let low_row = is.at_is in
    let such : HasText document story (HasRange row.at (row.at + 1)) =
    subst (λ (o : Option (List Item)). MatchOption o ⊥ (HasRange row.at (row.at + 1))) (sym there)
    (omega arith, omega (arith, low, low_row)) in
    record {
      there = subst (λ (s : Story). HasText document s (HasRange row.at (row.at + 1))) (sym is.story_is) such;
      short = is.short;
    }

text_there : (document : Document) (story : Story) (definitions : List (Option RowDefinition)) (text : List Item) →
    story_text document story ≡ Some text → All (IsRowOf document) (text_rows story definitions text)
text_there document story definitions text there =
    listed_all (IsRowOf document) (defined_row_at story definitions text) (length text) (λ at row low is.
    row_there document story text at row there low (row_is story at (item_mark_at text at) _ row is))

texts_there : (document : Document) (side : Side) (definitions : List (Option RowDefinition))
    (texts : List (List Item)) → ((i : ℕ) → story_text document (side_name side i) ≡ slice_get texts i) →
    All (IsRowOf document) (texts_rows side definitions texts)
texts_there document side definitions texts named =
    all_joined (IsRowOf document)
    (λ i. text_rows (side_name side i) (drop (items_before texts i) definitions) (unwrap_or (slice_get texts i) []))
    (length texts) (λ i low.
    let there = slice_get-get_or texts i [] low in
    let text = get_or texts i [] in
    let own : unwrap_or (slice_get texts i) [] ≡ text =
    ap (λ (o : Option (List Item)). unwrap_or o []) there in
    subst (λ (t : List Item). All (IsRowOf document) (text_rows (side_name side i) (drop (items_before texts i)
    definitions) t)) (sym own)
    (text_there document (side_name side i) (drop (items_before texts i) definitions) text (named i ∙ there)))

pub rows_there : (begins : StoryBegins) (definitions : List (Option RowDefinition)) (document : Document) →
    All (IsRowOf document) (document_rows begins definitions document)
rows_there begins definitions document =
    let notes = drop begins.notes definitions in
    let heads = drop begins.heads definitions in
    All-append (IsRowOf document) (text_rows Main definitions document.main)
    (texts_rows Notes notes document.notes ++ texts_rows Heads heads document.heads)
    (text_there document Main definitions document.main refl)
    (All-append (IsRowOf document) (texts_rows Notes notes document.notes) (texts_rows Heads heads document.heads)
    (texts_there document Notes notes document.notes (λ i. refl))
    (texts_there document Heads heads document.heads (λ i. refl)))
