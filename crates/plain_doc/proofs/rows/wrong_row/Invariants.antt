use Rattle.std.proofs.Common.{◌≡◌, ℕ, ◌<◌, ◌≤◌, take}
use Rattle.plain_doc.specs.RulesOfItems.{IsWrongItem}
use Rattle.plain_doc.specs.Rows.{open_cells, FitsRow}
use Rattle.plain_doc.proofs.rows.wrong_row.Given as goal

-- the cells of the open row, and no item so far is wrong
abbrev pub invariant-loop-i : goal.invariant-loop-i
invariant-loop-i l = record {
  few : l.cells ≤ l.i;
  count : l.cells ≡ open_cells (take l.i l.text);
  right : (k : ℕ) → k < l.i → IsWrongItem (λ i item. FitsRow (open_cells (take i l.text)) item) l.text k → ⊥;
}
