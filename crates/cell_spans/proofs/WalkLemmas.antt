-- Lists that loops go along.
use Rattle.std.proofs.Common.{◌≡◌, ◌∙◌, ◌<◌, ◌≤◌, ℕ, suc, ◌+◌, Bool, true, false, List, [], ◌∷◌, ◌++◌, length, take, drop, map}
use Rattle.std.proofs.Common.{Option, Some, refl, sym, ap, subst, arith, append_assoc, zero, ◌&&◌, inl, inr}
use Rattle.std.specs.Prelude.{slice_get, if◌then◌else◌}
use Rattle.std.proofs.lemmas.Bool.{cases_lt}
use Rattle.doc_bits.proofs.Public.{and_true, take_step}
use Rattle.cell_spans.specs.Definition.{ascends, is_wide}
use Rattle.std.proofs.Math.ListN.{drop_of_length-le}
use Rattle.std.proofs.lemmas.List.{map-append, take_all}
use Rattle.view_places.specs.declared.element.Span.{Span}
use Rattle.cell_spans.specs.declared.rows.RowCell.{RowCell}
use Rattle.cell_spans.specs.Rows.{row_cells_from, joins_behind, row_cell}
use Rattle.cell_spans.specs.Spans.{Row, before_at, cell_span, edges_of, edges_of_rows, edges_with, has_part_in}
use Rattle.cell_spans.specs.Spans.{known_row}
use Rattle.cell_spans.specs.Spans.{row_at, rows_below, spans_from}
use Rattle.run_lists.proofs.Public.{run_and_rest}

-- one more of what elements give
pub mapped_step : {A B : Type 0} (f : A → B) (start at next : List B) (xs : List A) (k : ℕ) (x : A) (y : B) →
    slice_get xs k ≡ Some x → at ≡ start ++ map f (take k xs) → y ≡ f x → next ≡ at ++ y ∷ [] → next ≡ start ++ map f
    (take (k + 1) xs)
mapped_step {A = A} {B = B} f start at next xs k x y there so_far is next_is =
    next_is ∙ (λ i. so_far i ++ is i ∷ []) ∙ append_assoc start (map f (take k xs)) (f x ∷ [])
    ∙ ap (λ (ys : List B). start ++ ys) (sym (map-append f (take k xs) (x ∷ [])))
    ∙ ap (λ (zs : List A). start ++ map f zs) (sym (take_step xs k x there))

pub mapped_all : {A B : Type 0} (f : A → B) (start at : List B) (xs : List A) (k : ℕ) → length xs ≤ k →
    at ≡ start ++ map f (take k xs) → at ≡ start ++ map f xs
mapped_all {A = A} f start at xs k all so_far =
    so_far ∙ ap (λ (zs : List A). start ++ map f zs) (take_all k xs all)

-- ---- edges

pub edges_step : (edges mid next : List ℕ) (cells : Row) (k : ℕ) (cell : RowCell) → slice_get cells k ≡ Some cell →
    mid ≡ edges_with edges cell.left → next ≡ edges_with mid cell.right →
    edges_of next (drop (k + 1) cells) ≡ edges_of edges (drop k cells)
unfolding edges_of
edges_step edges mid next cells k cell there one other =
    ap (λ (e : List ℕ). edges_of e (drop (k + 1) cells)) (other ∙ ap (λ (e : List ℕ). edges_with e cell.right) one)
    ∙ ap (λ (rest : Row). edges_of edges rest) (sym (run_and_rest cells k cell there))

pub edges_end : (edges : List ℕ) (cells : Row) (k : ℕ) → length cells ≤ k → edges_of edges (drop k cells) ≡ edges
unfolding edges_of
edges_end edges cells k all = ap (λ (rest : Row). edges_of edges rest) (drop_of_length-le cells all)

pub rows_step : (edges next : List ℕ) (rows : List Row) (k : ℕ) (row shown : Row) → slice_get rows k ≡ Some row →
    shown ≡ row → next ≡ edges_of edges shown →
    edges_of_rows next (drop (k + 1) rows) ≡ edges_of_rows edges (drop k rows)
unfolding edges_of_rows
rows_step edges next rows k row shown there same is =
    ap (λ (e : List ℕ). edges_of_rows e (drop (k + 1) rows)) (is ∙ ap (edges_of edges) same)
    ∙ ap (λ (rest : List Row). edges_of_rows edges rest) (sym (run_and_rest rows k row there))

pub rows_end : (edges : List ℕ) (rows : List Row) (k : ℕ) → length rows ≤ k → edges_of_rows edges (drop k rows) ≡ edges
unfolding edges_of_rows
rows_end edges rows k all = ap (λ (rest : List Row). edges_of_rows edges rest) (drop_of_length-le rows all)

-- ---- the cells of a row

pub cells_step : (definition : List ℕ) (in_head : Bool) (k : ℕ) (joins next_joins blank : Bool) (blanks : List Bool)
    (cell : RowCell) (cells next : Row) → slice_get blanks k ≡ Some blank →
    cell ≡ row_cell definition in_head k joins blank (drop (k + 1) blanks) → next_joins ≡ joins_behind definition k cell
    → next ≡ cells ++ cell ∷ [] → next ++ row_cells_from definition in_head (k + 1) next_joins (drop (k + 1) blanks)
    ≡ cells ++ row_cells_from definition in_head k joins (drop k blanks)
unfolding row_cells_from
cells_step definition in_head k joins next_joins blank blanks cell cells next there is joins_is next_is =
    let rest = drop (k + 1) blanks in
    (λ i. next_is i ++ row_cells_from definition in_head (k + 1) (joins_is i) rest)
    ∙ append_assoc cells (cell ∷ []) (row_cells_from definition in_head (k + 1) (joins_behind definition k cell) rest)
    ∙ (λ i. cells ++ (is i ∷ row_cells_from definition in_head (k + 1) (joins_behind definition k (is i)) rest))
    ∙ ap (λ (all : List Bool). cells ++ row_cells_from definition in_head k joins all) (sym (run_and_rest blanks k blank
    there))

pub cells_end : (definition : List ℕ) (in_head : Bool) (k : ℕ) (joins : Bool) (blanks : List Bool) → length blanks ≤ k →
    row_cells_from definition in_head k joins (drop k blanks) ≡ []
unfolding row_cells_from
cells_end definition in_head k joins blanks all =
    ap (λ (rest : List Bool). row_cells_from definition in_head k joins rest) (drop_of_length-le blanks all)

-- ---- rows

pub below_more : (cell : RowCell) (rows : List Row) (k : ℕ) (row : Row) → slice_get rows k ≡ Some row →
    has_part_in cell row ≡ true → rows_below cell (drop k rows) ≡ rows_below cell (drop (k + 1) rows) + 1
unfolding rows_below
below_more cell rows k row there on =
    ap (rows_below cell) (run_and_rest rows k row there)
    ∙ ap (λ (b : Bool). if b then rows_below cell (drop (k + 1) rows) + 1 else 0) on

pub below_ends : (cell : RowCell) (rows : List Row) (k : ℕ) (row : Row) → slice_get rows k ≡ Some row →
    has_part_in cell row ≡ false → rows_below cell (drop k rows) ≡ 0
unfolding rows_below
below_ends cell rows k row there off =
    ap (rows_below cell) (run_and_rest rows k row there)
    ∙ ap (λ (b : Bool). if b then rows_below cell (drop (k + 1) rows) + 1 else 0) off

pub below_none : (cell : RowCell) (rows : List Row) (k : ℕ) → length rows ≤ k → rows_below cell (drop k rows) ≡ 0
unfolding rows_below
below_none cell rows k all = ap (rows_below cell) (drop_of_length-le rows all)

pub row_there : (rows : List Row) (k : ℕ) (row : Row) → slice_get rows k ≡ Some row → row_at rows k ≡ row
row_there rows k row there = ap known_row there

before_next : (rows : List Row) (k : ℕ) (row : Row) → slice_get rows k ≡ Some row → before_at rows (k + 1) ≡ row
before_next rows k row there =
    let one : k + 1 ≡ suc k = omega arith in
    ap (before_at rows) one ∙ row_there rows k row there

pub table_step : (edges : List ℕ) (rows : List Row) (k : ℕ) (row : Row) (at next : List (Option Span)) →
    slice_get rows k ≡ Some row → next ≡ at ++ map (cell_span edges (before_at rows k) (drop (k + 1) rows)) (row_at rows
    k) → next ++ spans_from edges (before_at rows (k + 1)) (drop (k + 1) rows) ≡ at ++ spans_from edges (before_at rows
    k) (drop k rows)
unfolding spans_from
table_step edges rows k row at next there is =
    let before = before_at rows k in
    let rest = drop (k + 1) rows in
    let here : List (Option Span) = map (cell_span edges before rest) row in
    (λ i. is i ++ spans_from edges (before_next rows k row there i) rest)
    ∙ ap (λ (r : Row). (at ++ map (cell_span edges before rest) r) ++ spans_from edges row rest) (row_there rows k row
    there)
    ∙ append_assoc at here (spans_from edges row rest)
    ∙ ap (λ (all : List Row). at ++ spans_from edges before all) (sym (run_and_rest rows k row there))

pub table_end : (edges : List ℕ) (rows : List Row) (k : ℕ) (before : Row) → length rows ≤ k →
    spans_from edges before (drop k rows) ≡ []
unfolding spans_from
table_end edges rows k before all = ap (λ (rest : List Row). spans_from edges before rest) (drop_of_length-le rows all)

abbrev pub no_cell : RowCell
no_cell = record {
  in_head = false;
  left = 0;
  right = 0;
  is_part = false;
  is_vertical = false;
  goes_on = false;
}

-- ---- edges that ascend

pub ascends_more : (definition : List ℕ) (count : ℕ) → ascends definition count ≡ true → is_wide definition count ≡ true
    → ascends definition (count + 1) ≡ true
ascends_more definition count so_far wide =
    let one : count + 1 ≡ suc count = omega arith in
    ap (ascends definition) one ∙ and_true (ascends definition count) (is_wide definition count) so_far wide

false_second : (a b : Bool) → b ≡ false → (a && b) ≡ false
false_second true b is = is
false_second false b is = refl

-- one that is not wide settles all
pub ascends_not : (definition : List ℕ) (count cell : ℕ) → cell < count → is_wide definition cell ≡ false →
    ascends definition count ≡ false
ascends_not definition zero cell low is = absurd (omega (arith, low))
ascends_not definition (suc count) cell low is = elim (cases_lt cell count) [
  | inl less ↦ ap (λ (b : Bool). b && is_wide definition count) (ascends_not definition count cell less is)
  | inr more ↦
      let same : cell ≡ count = omega (arith, low, more) in
      subst (λ (n : ℕ). (ascends definition count && is_wide definition n) ≡ false) same (false_second (ascends
      definition count) (is_wide definition cell) is)
]
