-- Items behind the cells of a row, those of an open row and those that became paragraphs.
use Rattle.std.proofs.Common.{◌≡◌, ◌∙◌, ap, sym, refl, subst, ℕ, ◌+◌, ◌-◌, ◌==◌, Bool, true, false, inl, inr}
use Rattle.std.proofs.Common.{List, [], ◌∷◌, ◌++◌, length, take, map, arith, Option, Some, None, slice_get, not}
use Rattle.std.proofs.Common.{append_assoc, cond}
use Rattle.std.specs.Prelude.{All, ◌&&◌, ◌||◌, is_some, if◌then◌else◌}
use Rattle.std.specs.List.{count_by}
use Rattle.std.proofs.Math.Seq.{take-append_seam}
use Rattle.std.proofs.lemmas.Bool.{cases_lt, eqb-true, or_parts, or_cases}
use Rattle.std.proofs.lemmas.List.{length-append, append-nil, take-append-le}
use Rattle.std.proofs.lemmas.List.Elements.{All-head, All-tail}
use Rattle.std.proofs.lemmas.List.Sums.{sum_by-cons}
use Rattle.std.proofs.lemmas.Option.{same_Some, slice_get_within}
use Rattle.doc_bits.proofs.Public.{slice_get_push, slice_get_before, first_false}
use Rattle.text_codes.specs.Paragraph.{paragraph_mark, cell_mark}
use Rattle.doc_model.specs.declared.item.Item.{Item}
use Rattle.plain_doc.specs.Rows.{is_row_mark, is_cell_mark, is_mark_outside, is_byte_one, paragraph_value, HasCells}
use Rattle.plain_doc.specs.Rows.{FitsRow}
use Rattle.plain_doc.specs.Rows.{open_cells}
use Rattle.doc_mends.specs.BrokenRows.{parts_rows, is_count, names_cells, fits_row}
use Rattle.doc_mends.specs.PlainRows.{plain_item}
use Rattle.doc_mends.proofs.FitRowLemmas.{RowsFit, no_cell}
use Rattle.doc_columns.proofs.Public.{cells_onto_last}

-- ---- one item more that fits

pub fit_push : (text : List Item) (item : Item) → RowsFit text → FitsRow (open_cells text) item →
    RowsFit (text ++ item ∷ [])
fit_push text item fit fits i other is = elim (cases_lt i (length text)) [
  | inl before ↦
      let there : slice_get text i ≡ Some other = sym (slice_get_before text (item ∷ []) i before) ∙ is in
      let front : take i (text ++ item ∷ []) ≡ take i text = take-append-le i text (item ∷ []) (omega (arith, before)) in
      subst (λ (t : List Item). FitsRow (open_cells t) other) (sym front) (fit i other there)
  | inr behind ↦
      let low = slice_get_within (text ++ item ∷ []) i other is in
      let long : length (text ++ item ∷ []) ≡ length text + 1 = length-append text (item ∷ []) in
      let last : i ≡ length text = omega (arith, low, behind, long) in
      let same : item ≡ other =
      same_Some item other (sym (slice_get_push text item) ∙ (ap (slice_get (text ++ item ∷ [])) (sym last) ∙ is)) in
      let front : take i (text ++ item ∷ []) ≡ text =
      ap (λ (n : ℕ). take n (text ++ item ∷ [])) last ∙ take-append_seam text (item ∷ []) in
      subst (λ (t : List Item). FitsRow (open_cells t) other) (sym front)
      (subst (FitsRow (open_cells text)) same fits)
]

-- ---- items of an open row, and paragraphs

abbrev pub IsInside : Item → Type 0
IsInside item = parts_rows item ≡ false

-- such an item fits behind any cells
pub inside_fits : (cells : ℕ) (item : Item) → IsInside item → FitsRow cells item
inside_fits cells item inside =
    let parts = or_parts (is_row_mark item) (is_mark_outside item) inside in
    record {
      row = λ is. absurd (cc (sym parts.0 ∙ is));
      outside = λ is. absurd (cc (sym parts.1 ∙ is));
    }

pub after_where : (row cell : Bool) (n : ℕ) → row ≡ false → (if row then 0 else if cell then n + 1 else n) ≡ n + cond cell 1
    0
after_where true cell n is = absurd (cc is)
after_where false true n is = refl
after_where false false n is = omega arith

abbrev pub FitsAndHas : List Item → ℕ → Type 0
FitsAndHas text cells = RowsFit text × (open_cells text ≡ cells)

pub inside_row : (row front : List Item) (cells : ℕ) → FitsAndHas front cells → All IsInside row →
    FitsAndHas (front ++ row) (cells + count_by is_cell_mark row)
inside_row [] front cells is inside =
    subst (λ (t : List Item). FitsAndHas t (cells + 0)) (sym (append-nil front)) (is.0, is.1 ∙ omega arith)
inside_row (item ∷ row) front cells is inside =
    let one : IsInside item = All-head IsInside item row inside in
    let fits = fit_push front item is.0 (inside_fits (open_cells front) item one) in
    let parts = or_parts (is_row_mark item) (is_mark_outside item) one in
    let here : open_cells (front ++ item ∷ []) ≡ cells + cond (is_cell_mark item) 1 0 =
    cells_onto_last front item
    ∙ (after_where (is_row_mark item) (is_cell_mark item) (open_cells front) parts.0
    ∙ ap (λ (n : ℕ). n + cond (is_cell_mark item) 1 0) is.1) in
    let rest = inside_row row (front ++ item ∷ []) (cells + cond (is_cell_mark item) 1 0) (fits, here)
    (All-tail IsInside item row inside) in
    let sum : count_by is_cell_mark (item ∷ row) ≡ cond (is_cell_mark item) 1 0 + count_by is_cell_mark row =
    sum_by-cons (λ (x : Item). cond (is_cell_mark x) 1 0) item row in
    subst (λ (t : List Item). FitsAndHas t (cells + count_by is_cell_mark (item ∷ row)))
    (append_assoc front (item ∷ []) row)
    (rest.0, rest.1 ∙ omega (arith, sum))

other_unit : (is : Bool) (unit : ℕ) → (unit == cell_mark) ≡ is →
    ((if is then paragraph_mark else unit) == cell_mark) ≡ false
other_unit true unit same = refl
other_unit false unit same = same

-- a paragraph ends no cell and no row
no_cell_unit : (item : Item) → ((plain_item item).unit == cell_mark) ≡ false
no_cell_unit item = other_unit (item.unit == cell_mark) item.unit refl

no_row_mark : (item : Item) → is_row_mark (plain_item item) ≡ false
no_row_mark item =
    first_false ((plain_item item).unit == cell_mark) (is_byte_one (paragraph_value (plain_item item) 0x2417))
    (no_cell_unit
    item)

no_cell_mark : (item : Item) → is_cell_mark (plain_item item) ≡ false
no_cell_mark item =
    first_false ((plain_item item).unit == cell_mark) (not (is_byte_one (paragraph_value (plain_item item) 0x2417)))
    (no_cell_unit item)

none_after : (row cell : Bool) (n : ℕ) → row ≡ false → cell ≡ false → n ≡ 0 →
    (if row then 0 else if cell then n + 1 else n) ≡ 0
none_after true cell n is never none = refl
none_after false true n is never none = absurd (cc never)
none_after false false n is never none = none

pub plain_row : (row front : List Item) → FitsAndHas front 0 → FitsAndHas (front ++ map plain_item row) 0
plain_row [] front is = subst (λ (t : List Item). FitsAndHas t 0) (sym (append-nil front)) is
plain_row (item ∷ row) front is =
    let made : Item = plain_item item in
    let fits : FitsRow (open_cells front) made = record {
      row = λ it_is. absurd (cc (sym (no_row_mark item) ∙ it_is));
      outside = λ it_is. is.1;
    } in
    let here : open_cells (front ++ made ∷ []) ≡ 0 =
    cells_onto_last front made
    ∙ none_after (is_row_mark made) (is_cell_mark made) (open_cells front) (no_row_mark item) (no_cell_mark item)
    is.1 in
    subst (λ (t : List Item). FitsAndHas t 0) (append_assoc front (made ∷ []) (map plain_item row))
    (plain_row row (front ++ made ∷ []) (fit_push front made is.0 fits, here))

-- ---- an item behind the open row

has_count : (cells : ℕ) (first : Option ℕ) → is_count cells first ≡ true → first ≡ Some cells
has_count cells None is = absurd (cc is)
has_count cells (Some count) is = ap (λ (n : ℕ). Some n) (eqb-true count cells is)

has_named : (cells : ℕ) (value : Option (List ℕ)) → names_cells cells value ≡ true → HasCells value cells
has_named cells None is = absurd (cc is)
has_named cells (Some value) is = has_count cells (slice_get value 0) is

row_named : (row named outside : Bool) (cells : ℕ) → (if row then named else (cells == 0 || not outside)) ≡ true →
    row ≡ true → named ≡ true
row_named true named outside cells fits is = fits
row_named false named outside cells fits is = absurd (cc is)

none_outside : (row named outside : Bool) (cells : ℕ) → (if row then named else (cells == 0 || not outside)) ≡ true →
    row ≡ false → outside ≡ true → cells ≡ 0
none_outside true named outside cells fits never is = absurd (cc never)
none_outside false named false cells fits never is = absurd (cc is)
none_outside false named true cells fits never is = elim (or_cases (cells == 0) false fits) [
  | inl none ↦ eqb-true cells 0 none
  | inr other ↦ absurd (cc other)
]

-- what ends a row is no mark outside of tables
row_or_outside : (some cell in_table rest : Bool) → (some && (not cell && not in_table)) ≡ true →
    (cell && rest) ≡ false
row_or_outside true true in_table rest is = absurd (cc is)
row_or_outside false true in_table rest is = absurd (cc is)
row_or_outside some false in_table rest is = refl

no_row_outside : (item : Item) → is_mark_outside item ≡ true → is_row_mark item ≡ false
no_row_outside item is =
    row_or_outside (is_some item.mark) (item.unit == cell_mark) (is_byte_one (paragraph_value item 0x2416))
    (is_byte_one (paragraph_value item 0x2417)) is

-- `fits_row` says so
pub fits_rule : (cells : ℕ) (item : Item) → fits_row cells item ≡ true → FitsRow cells item
fits_rule cells item fits =
    let row = is_row_mark item in
    let named = names_cells cells (paragraph_value item 0xD608) in
    record {
      row = λ is. has_named cells (paragraph_value item 0xD608) (row_named row named (is_mark_outside item) cells fits is);
      outside = λ is. none_outside row named (is_mark_outside item) cells fits (no_row_outside item is) is;
    }

-- no row is open behind what parts rows and fits
closed_where : (row outside cell : Bool) (n : ℕ) → (row || outside) ≡ true → (outside ≡ true → n ≡ 0) →
    (outside ≡ true → cell ≡ false) → (if row then 0 else if cell then n + 1 else n) ≡ 0
closed_where true outside cell n parts none never = refl
closed_where false true true n parts none never = absurd (cc (never refl))
closed_where false true false n parts none never = none refl
closed_where false false cell n parts none never = absurd (cc parts)

pub parted : (front : List Item) (cells : ℕ) (item : Item) → FitsAndHas front cells → FitsRow cells item →
    parts_rows item ≡ true → FitsAndHas (front ++ item ∷ []) 0
parted front cells item is fits parts =
    let fits_here : FitsRow (open_cells front) item = subst (λ (n : ℕ). FitsRow n item) (sym is.1) fits in (
      fit_push front item is.0 fits_here,
      cells_onto_last front item
          ∙ closed_where (is_row_mark item) (is_mark_outside item) (is_cell_mark item) (open_cells front) parts
          fits_here.outside (no_cell item),
    )
