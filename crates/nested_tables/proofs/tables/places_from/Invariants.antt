use Rattle.std.proofs.Common.{◌≡◌, ◌≤◌, Bool, Some, drop}
use Rattle.nested_tables.specs.Tables.{is_whole_table}
use Rattle.nested_tables.proofs.TableLemmas.{PlacesAt}
use Rattle.nested_tables.proofs.tables.places_from.Given as goal

-- the places of the paragraphs so far are there
abbrev pub invariant-loop-number : goal.invariant-loop-number
invariant-loop-number l = record {
  at : PlacesAt l.depth l.paragraphs l.places l.walk l.number;
  count : l.walk.number ≡ l.number;
  cell : l.walk.cell ≤ l.number;
  known : (whole : Bool) → l.known ≡ Some whole →
      (ended : Bool) × (whole ≡ is_whole_table l.depth ended (drop l.number l.paragraphs));
}
