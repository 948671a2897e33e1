use Rattle.std.proofs.Common.{◌≡◌, ℕ, ◌<◌, length}
use Rattle.std.specs.Prelude.{slice_get}
use Rattle.doc_parts.specs.Table.{IsValidEntry, spelled_entry}
use Rattle.doc_parts.proofs.tables.leading_entries.Given as goal

-- the entries so far are right, and in the list
abbrev pub invariant-loop-k : goal.invariant-loop-k
invariant-loop-k g l = record {
  count : length l.list.items ≡ l.k;
  each : (k : ℕ) → k < l.k → slice_get l.list.items k ≡ spelled_entry g.E.TableEntry.form l.plc k;
  right : (k : ℕ) → k < l.k → IsValidEntry g.E.TableEntry.form l.cps l.plc k;
}
