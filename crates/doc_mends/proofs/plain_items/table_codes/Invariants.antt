use Rattle.std.proofs.Common.{◌≡◌, ◌++◌, map, length}
use Rattle.std.specs.Prelude.{filter}
use Rattle.doc_mends.specs.PlainRows.{is_table_code, table_codes}
use Rattle.doc_mends.proofs.plain_items.table_codes.Given as goal

-- the codes so far, and those that are left
abbrev pub invariant-loop-entry : goal.invariant-loop-entry
invariant-loop-entry l =
    map (λ code. code.0) l.codes.items ++ filter is_table_code (map (λ prl. prl.0) l.left) ≡ table_codes l.pap

abbrev pub decreases-loop-entry : goal.decreases-loop-entry
decreases-loop-entry l = length l.left
