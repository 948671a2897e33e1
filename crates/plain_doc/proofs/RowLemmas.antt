-- Going through the items of a text, the cells of the open row and the first item that breaks the rows.
use Rattle.std.proofs.Common.{◌≡◌, inl, inr, ℕ, ◌+◌, ◌<◌, ◌≤◌, Bool, true, false, cond, not, List, [], ◌∷◌, ◌++◌}
use Rattle.std.proofs.Common.{length, take, get_or, reverse, refl, sym, ◌∙◌, ap, arith}
use Rattle.std.specs.List.{count_by, take_while}
use Rattle.std.proofs.Math.Seq.{take-length}
use Rattle.std.proofs.lemmas.Bool.{cases_lt}
use Rattle.std.proofs.lemmas.List.{reverse-append, take_more}
use Rattle.std.proofs.lemmas.List.Sums.{take_while-cons, sum_by-cons}
use Rattle.doc_bits.specs.Rules.{IsLeast, Nowhere}
use Rattle.doc_model.specs.declared.item.Item.{Item}
use Rattle.plain_doc.specs.RulesOfItems.{IsWrongItem}
use Rattle.plain_doc.proofs.ItemLemmas.{wrong_within}
use Rattle.plain_doc.specs.Rows.{is_row_mark, is_cell_mark, open_cells, cells_after, FitsRow, BreaksRows}

pub open_cells-nil : open_cells [] ≡ 0
unfolding open_cells
open_cells-nil = refl

-- of a row mark and what is before it nothing is counted
stops_at_row : (row : Bool) (item : Item) (others : List Item) →
    count_by is_cell_mark (cond (not row) (item ∷ others) []) ≡ cond row 0 (count_by is_cell_mark (item ∷ others))
stops_at_row true item others = refl
stops_at_row false item others = refl

pub one_cell_more : (row cell : Bool) (n : ℕ) → cond row 0 (cond cell 1 0 + n) ≡ cond row 0 (cond cell (n + 1) n)
one_cell_more true cell n = refl
one_cell_more false true n = omega arith
one_cell_more false false n = omega arith

cells_onto : (item : Item) (others : List Item) →
    count_by is_cell_mark (take_while (λ item. not (is_row_mark item)) (item ∷ others)) ≡ cells_after
    (count_by is_cell_mark (take_while (λ item. not (is_row_mark item)) others)) item
cells_onto item others =
    let such : Item → Bool = λ item. not (is_row_mark item) in
    let inside : List Item = take_while such others in
    ap (count_by is_cell_mark) (take_while-cons such item others)
    ∙ stops_at_row (is_row_mark item) item inside
    ∙ ap (λ n. cond (is_row_mark item) 0 n) (sum_by-cons (λ x. cond (is_cell_mark x) 1 0) item inside)
    ∙ one_cell_more (is_row_mark item) (is_cell_mark item) (count_by is_cell_mark inside)

-- after one item more
pub open_cells_more : (text : List Item) (i : ℕ) (item : Item) → i < length text → item ≡ get_or text i item →
    open_cells (take (i + 1) text) ≡ cells_after (open_cells (take i text)) item
unfolding open_cells
open_cells_more text i item h is =
    let turned : reverse (take (i + 1) text) ≡ item ∷ reverse (take i text) =
    ap reverse (take_more text i item h ∙ ap (λ x. take i text ++ x ∷ []) (sym is))
    ∙ reverse-append (take i text) (item ∷ []) in
    ap (λ items. count_by is_cell_mark (take_while (λ item. not (is_row_mark item)) items)) turned
    ∙ cells_onto item (reverse (take i text))

abbrev pub RightIn : List Item → ℕ → Item → Type 0
RightIn text i item = FitsRow (open_cells (take i text)) item

-- the first wrong item of the rows
pub row_stops : (text : List Item) (i : ℕ) → ((k : ℕ) → k < i → IsWrongItem (RightIn text) text k → ⊥) →
    IsWrongItem (RightIn text) text i → IsLeast (λ a b. a ≤ b) (BreaksRows text) i
row_stops text i before here = record {
  broken = inl here;
  least = λ p broken. elim broken [
    | inl w ↦ elim (cases_lt p i) [ inl low ↦ absurd (before p low w) | inr high ↦ high ]
    | inr end ↦ let e = end.0 in omega (arith, wrong_within (RightIn text) text i here)
  ];
}

pub no_row_open : (text : List Item) → ((k : ℕ) → k < length text → IsWrongItem (RightIn text) text k → ⊥) →
    open_cells (take (length text) text) ≡ 0 → Nowhere (BreaksRows text)
no_row_open text right none = λ p broken. elim broken [
  | inl w ↦ right p (wrong_within (RightIn text) text p w) w
  | inr end ↦ end.1 (ap open_cells (sym (take-length text)) ∙ none)
]

pub row_open : (text : List Item) → ((k : ℕ) → k < length text → IsWrongItem (RightIn text) text k → ⊥) →
    (open_cells (take (length text) text) ≡ 0 → ⊥) → IsLeast (λ a b. a ≤ b) (BreaksRows text) (length text)
row_open text right some = record {
  broken = inr (refl, λ none. some (ap open_cells (take-length text) ∙ none));
  least = λ p broken. elim broken [
    | inl w ↦ absurd (right p (wrong_within (RightIn text) text p w) w)
    | inr end ↦ let e = end.0 in omega arith
  ];
}
