-- A text whose rows break no rule has no rows that become paragraphs.
use Rattle.std.proofs.Common.{◌≡◌, ◌∙◌, ap, sym, refl, subst, ℕ, zero, suc, ◌+◌, ◌<◌, ◌≤◌, ◌==◌, Bool, true, false, inl, inr}
use Rattle.std.proofs.Common.{List, [], ◌++◌, ◌-◌, length, take, arith, Option, Some, None, slice_get, not, add-one, get_or}
use Rattle.std.specs.Prelude.{◌&&◌, ◌||◌, is_some, if◌then◌else◌}
use Rattle.std.specs.Option.{unwrap_or}
use Rattle.std.specs.List.{count_by}
use Rattle.std.proofs.Math.Seq.{take-length}
use Rattle.std.proofs.lemmas.Bool.{cases_lt, eq-eqb, or_left, or_right}
use Rattle.std.proofs.lemmas.Option.{get_or_from_slice_get, same_Some}
use Rattle.doc_bits.proofs.Public.{there_is}
use Rattle.doc_bits.specs.declared.places.Story.{Story}
use Rattle.doc_bits.specs.declared.places.Story.TheVariants.{Main}
use Rattle.doc_bits.specs.declared.places.Where.TheVariants as places
use Rattle.text_codes.specs.Paragraph.{cell_mark}
use Rattle.doc_model.specs.declared.item.Item.{Item}
use Rattle.doc_model.specs.declared.document.Document.{Document}
use Rattle.plain_doc.specs.declared.rules_texts.Side.{Side}
use Rattle.plain_doc.specs.declared.rules_texts.Side.TheVariants.{Notes, Heads}
use Rattle.plain_doc.specs.Rows.{is_row_mark, is_cell_mark, is_mark_outside, is_byte_one, paragraph_value, open_cells}
use Rattle.plain_doc.specs.Rows.{HasCells, FitsRow}
use Rattle.plain_doc.specs.RightDocument.{HoldsAtItems, IsValidDocument}
use Rattle.plain_doc.proofs.Public.{open_cells-nil, open_cells_more}
use Rattle.doc_losses.proofs.Public.{nothing_listed, nothing_joined}
use Rattle.doc_mends.specs.declared.mends.BrokenRow.{BrokenRow}
use Rattle.doc_mends.specs.Sides.{side_name}
use Rattle.doc_mends.specs.BrokenRows.{parts_rows, open_length, cells_of_row, is_count, names_cells, fits_row, fits_behind}
use Rattle.doc_mends.specs.BrokenRows.{mark_length, broken_row_at, text_broken_rows, texts_broken_rows, broken_rows}
use Rattle.doc_mends.proofs.RowLemmas.{open_items-nil, cells_more, past}

-- ---- an item that fits

-- the end of a paragraph outside of tables ends no cell
outside_ends_no_cell : (some cell in_table rest : Bool) → (some && (not cell && not in_table)) ≡ true →
    (cell && rest) ≡ false
outside_ends_no_cell true true in_table rest is = absurd (cc is)
outside_ends_no_cell false true in_table rest is = absurd (cc is)
outside_ends_no_cell some false in_table rest is = refl

pub no_cell : (item : Item) → is_mark_outside item ≡ true → is_cell_mark item ≡ false
no_cell item is =
    outside_ends_no_cell (is_some item.mark) (item.unit == cell_mark) (is_byte_one (paragraph_value item 0x2416))
    (not (is_byte_one (paragraph_value item 0x2417))) is

counted : (cells : ℕ) (first : Option ℕ) → first ≡ Some cells → is_count cells first ≡ true
counted cells None is = absurd (cc is)
counted cells (Some count) is = eq-eqb count cells (same_Some count cells is)

named : (cells : ℕ) (value : Option (List ℕ)) → HasCells value cells → names_cells cells value ≡ true
named cells None has = absurd has
named cells (Some value) has = counted cells (slice_get value 0) has

fits_where : (row named outside : Bool) (cells : ℕ) → (row ≡ true → named ≡ true) → (outside ≡ true → cells ≡ 0) →
    (if row then named else (cells == 0 || not outside)) ≡ true
fits_where true named outside cells right none = right refl
fits_where false named true cells right none = or_left (cells == 0) false (eq-eqb cells 0 (none refl))
fits_where false named false cells right none = or_right (cells == 0) true refl

pub fits_so : (cells : ℕ) (item : Item) → FitsRow cells item → fits_row cells item ≡ true
fits_so cells item fits =
    fits_where (is_row_mark item) (names_cells cells (paragraph_value item 0xD608)) (is_mark_outside item) cells
    (λ is. named cells (paragraph_value item 0xD608) (fits.row is)) fits.outside

-- ---- the cells of the open row

-- where an item fits, the row is open behind it as the rules say
one_count : (row outside cell : Bool) (cells : ℕ) → (outside ≡ true → cells ≡ 0) → (outside ≡ true → cell ≡ false) →
    (if row || outside then 0 else if cell then cells + 1 else cells) ≡ (if row then 0 else if cell then cells + 1
    else cells)
one_count true outside cell cells none no_cell = refl
one_count false false cell cells none no_cell = refl
one_count false true true cells none no_cell = absurd (cc (no_cell refl))
one_count false true false cells none no_cell = sym (none refl)

abbrev pub RowsFit : List Item → Type 0
RowsFit text = HoldsAtItems text (λ i item. FitsRow (open_cells (take i text)) item)

same_cells : (text : List Item) → RowsFit text → (at : ℕ) → at ≤ length text →
    cells_of_row (take at text) ≡ open_cells (take at text)
same_cells text fit zero low = ap (count_by is_cell_mark) open_items-nil ∙ sym open_cells-nil
same_cells text fit (suc at) low =
    let it = there_is text at (omega (arith, low)) in
    let item = it.0 in
    let before : cells_of_row (take at text) ≡ open_cells (take at text) =
    same_cells text fit at (omega (arith, low)) in
    let fits : FitsRow (open_cells (take at text)) item = fit at item it.1 in
    let here : item ≡ get_or text at item = sym (get_or_from_slice_get text at item item it.1) in
    let one : cells_of_row (take (at + 1) text) ≡ open_cells (take (at + 1) text) =
    cells_more text at item it.1
    ∙ (ap (λ (n : ℕ). if parts_rows item then 0 else if is_cell_mark item then n + 1 else n) before
    ∙ (one_count (is_row_mark item) (is_mark_outside item) (is_cell_mark item) (open_cells (take at text)) fits.outside
    (no_cell item) ∙ sym (open_cells_more text at item (omega (arith, low)) here))) in
    subst (λ (n : ℕ). cells_of_row (take n text) ≡ open_cells (take n text)) (add-one at) one

-- ---- none breaks the rule

no_row : (fits : Bool) (row : BrokenRow) → fits ≡ true →
    if◌then◌else◌ {A = Option BrokenRow} fits None (Some row) ≡ None
no_row true row is = refl
no_row false row is = absurd (cc is)

fits_at : (text : List Item) → RowsFit text → open_cells text ≡ 0 → (at : ℕ) → at < length text + 1 →
    fits_behind (cells_of_row (take at text)) (slice_get text at) ≡ true
fits_at text fit none at low = elim (cases_lt at (length text)) [
  | inl before ↦
      let it = there_is text at before in
      ap (fits_behind (cells_of_row (take at text))) it.1
      ∙ (ap (λ (n : ℕ). fits_row n it.0) (same_cells text fit at (omega (arith, before)))
      ∙ fits_so (open_cells (take at text)) it.0 (fit at it.0 it.1))
  | inr behind ↦
      let last : at ≡ length text = omega (arith, low, behind) in
      let closed : cells_of_row (take at text) ≡ 0 =
      same_cells text fit at (omega (arith, last))
      ∙ (ap (λ (n : ℕ). open_cells (take n text)) last ∙ (ap open_cells (take-length text) ∙ none)) in
      ap (fits_behind (cells_of_row (take at text))) (past text at (omega (arith, last)))
      ∙ eq-eqb (cells_of_row (take at text)) 0 closed
]

pub none_breaks : (story : Story) (text : List Item) → RowsFit text → open_cells text ≡ 0 →
    text_broken_rows story text ≡ []
none_breaks story text fit none =
    nothing_listed (broken_row_at story text) (length text + 1) (λ at low.
    let len : ℕ = open_length (take at text) in
    let cells : ℕ = cells_of_row (take at text) in
    no_row (fits_behind cells (slice_get text at))
    (record { story = story; from = at - len; len = len + mark_length (slice_get text at); cells = cells })
    (fits_at text fit none at low))

none_in : (side : Side) (texts : List (List Item)) →
    ((n : ℕ) (text : List Item) → slice_get texts n ≡ Some text → RowsFit text) →
    ((n : ℕ) (text : List Item) → slice_get texts n ≡ Some text → open_cells text ≡ 0) →
    texts_broken_rows side texts ≡ []
none_in side texts fit none =
    nothing_joined (λ (n : ℕ). text_broken_rows (side_name side n) (unwrap_or (slice_get texts n) []))
    (length texts) (λ n low.
    let it = there_is texts n low in
    ap (λ (o : Option (List Item)). text_broken_rows (side_name side n) (unwrap_or o [])) it.1
    ∙ none_breaks (side_name side n) it.0 (fit n it.0 it.1) (none n it.0 it.1))

pub no_broken_rows : (document : Document) → IsValidDocument document → broken_rows document ≡ []
no_broken_rows document right =
    let notes : List BrokenRow = texts_broken_rows Notes document.notes in
    let heads : List BrokenRow = texts_broken_rows Heads document.heads in
    ap (λ (l : List BrokenRow). l ++ (notes ++ heads))
    (none_breaks Main document.main (right.texts places.Main document.main refl).rows
    (right.texts places.Main document.main refl).row_ends)
    ∙ (ap (λ (l : List BrokenRow). l ++ heads)
    (none_in Notes document.notes (λ n text is. (right.texts (places.Note n) text is).rows)
    (λ n text is. (right.texts (places.Note n) text is).row_ends))
    ∙ none_in Heads document.heads (λ n text is. (right.texts (places.Head n) text is).rows)
    (λ n text is. (right.texts (places.Head n) text is).row_ends))
