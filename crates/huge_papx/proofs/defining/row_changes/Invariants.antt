use Rattle.std.proofs.Common.{◌≡◌, map, take, All}
use Rattle.doc_bits.specs.Number.{AreBytes}
use Rattle.huge_papx.specs.Defined.{definition_change}
use Rattle.huge_papx.proofs.defining.row_changes.Given as goal

-- the changes so far
abbrev pub invariant-loop-k : goal.invariant-loop-k
invariant-loop-k l = record {
  is : l.changes ≡ map definition_change (take l.k l.rows);
  bytes : All (λ row. AreBytes row.cells) (take l.k l.rows);
}
