use Rattle.std.proofs.Common.{◌≡◌, ◌≤◌}
use Rattle.doc_patch.specs.Changes.{map_range}
use Rattle.doc_mends.specs.PlainRows.{plain_item}
use Rattle.doc_mends.proofs.tables.make_row.Given as goal

-- the first items of the row became others
abbrev pub invariant-loop-at : goal.invariant-loop-at
invariant-loop-at l = record {
  items : l.items ≡ map_range plain_item l.fn.items l.fn.row.from l.at;
  after : l.fn.row.from ≤ l.at;
}
