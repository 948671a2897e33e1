use Rattle.std.proofs.Common.{◌≡◌, ℕ, ◌+◌, ◌<◌, ◌∙◌, length, take, refl, sym, subst, below_more, arith}
use Rattle.std.proofs.lemmas.Bool.{false≢true}
use Rattle.plain_doc.specs.RulesOfItems.{IsWrongItem}
use Rattle.plain_doc.specs.Rows.{open_cells, FitsRow, cells_after}
use Rattle.plain_doc.proofs.ItemLemmas.{wrong_there, right_there}
use Rattle.plain_doc.proofs.RowLemmas.{RightIn, open_cells-nil, open_cells_more, row_stops, no_row_open, row_open}
use Rattle.plain_doc.proofs.rows.wrong_row.Goals as goal

pub loop-i-init : goal.loop-i-init
loop-i-init c = record { few = omega arith; count = sym open_cells-nil; right = λ k h. absurd (omega arith) }

pub returns-then-not-fits_row : goal.returns-then-not-fits_row
returns-then-not-fits_row c =
    let text = c.args.text.now in
    let i = c.loop-i.i in
    row_stops text i c.loop-i.invariant.right
    (wrong_there (RightIn text) text i c.index-text-i.result (omega arith) c.index-text-i.is
    (λ right. false≢true (c.if-not-fits_row.ensures.1
    (subst (λ n. FitsRow n c.index-text-i.result) (sym c.loop-i.invariant.count) right))))

pub loop-i-preserved : goal.loop-i-preserved
loop-i-preserved c =
    let text = c.args.text.now in
    let i = c.loop-i.i in
    let item = c.index-text-i.result in
    let count : c.loop-i.cells ≡ open_cells (take i text) = c.loop-i.invariant.count in
    record {
      few = omega (arith, c.next_cells-cells.ensures.few);
      count =
          c.next_cells-cells.ensures.after ∙ subst (λ n. cells_after n item ≡ open_cells (take (i + 1) text))
          (sym count) (sym (open_cells_more text i item (omega arith) c.index-text-i.is));
      right = below_more (λ k. IsWrongItem (RightIn text) text k → ⊥) i c.loop-i.invariant.right
          (right_there (RightIn text) text i item c.index-text-i.is
          (subst (λ n. FitsRow n item) count (c.if-not-fits_row.ensures.0 refl)));
    }

pub returns-then-cells-eq0 : goal.returns-then-cells-eq0
returns-then-cells-eq0 c =
    let text = c.args.text.now in
    let end : c.loop-i.i ≡ length text = omega arith in
    no_row_open text
    (subst (λ n. (k : ℕ) → k < n → IsWrongItem (RightIn text) text k → ⊥) end c.loop-i.invariant.right)
    (subst (λ n. open_cells (take n text) ≡ 0) end (sym c.loop-i.invariant.count ∙ c.if-cells-eq0.true))

pub returns-else-cells-eq0 : goal.returns-else-cells-eq0
returns-else-cells-eq0 c =
    let text = c.args.text.now in
    let end : c.loop-i.i ≡ length text = omega arith in
    row_open text
    (subst (λ n. (k : ℕ) → k < n → IsWrongItem (RightIn text) text k → ⊥) end c.loop-i.invariant.right)
    (subst (λ n. open_cells (take n text) ≡ 0 → ⊥) end (λ none. c.if-cells-eq0.false (c.loop-i.invariant.count ∙ none)))
