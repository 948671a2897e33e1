-- The table stream: its parts in the order of their pairs, each right after the last, and the pairs that name them.
use Rattle.std.specs.Prelude.{◌≡◌, ℕ, ◌+◌, ◌==◌, List, [], ◌∷◌, ◌++◌, length, slice_set, if◌then◌else◌}
use Rattle.std.specs.List.{flat_map}
use Rattle.std.specs.Borrow.{Bor}
use Rattle.fib_form.specs.TableParts.{pair_number}
use Rattle.fib_form.specs.declared.table_parts.TablePart.{TablePart}
use Rattle.fib_form.specs.FibFields.{empty_pairs}
use Rattle.fib_form.specs.TableEntries.{TableEntry, entry}
use Rattle.full_save.specs.declared.table_parts.TableParts.{TableParts}

-- the bytes of a part, and those that its pair does not count
abbrev pub table_entry_bytes : TableEntry → List ℕ
table_entry_bytes part = part.bytes ++ part.behind

-- the parts one after the other
abbrev pub entries_bytes : List TableEntry → List ℕ
entries_bytes parts = flat_map table_entry_bytes parts

-- fc and lcb of a part that is at a place; an empty part has no place
abbrev pub put_pair : ℕ → TableEntry → List (ℕ × ℕ) → List (ℕ × ℕ)
put_pair at part pairs = if length part.bytes == 0 then pairs else slice_set pairs part.number (at, length part.bytes)

-- the pairs of parts that are one after the other from a place on, over other pairs
unfoldable pub pairs_from : ℕ → List (ℕ × ℕ) → List TableEntry → List (ℕ × ℕ)
pairs_from at pairs [] = pairs
pairs_from at pairs (part ∷ parts) = pairs_from (at + length (table_entry_bytes part)) (put_pair at part pairs) parts

-- the pairs of the parts of a table stream
abbrev pub entries_pairs : List TableEntry → List (ℕ × ℕ)
entries_pairs parts = pairs_from 0 empty_pairs parts

-- the parts are written, and their pairs are put
pub record AreWritten (parts : List TableEntry) (table : TableParts) : Type 0 where
  pub bytes_are : table.bytes ≡ entries_bytes parts
  pub pairs_are : table.pairs ≡ entries_pairs parts

-- a part is written behind those that are
abbrev pub WritesPart : TableEntry → TableParts → TableParts → Type 0
WritesPart part old new = (parts : List TableEntry) → AreWritten parts old → AreWritten (parts ++ part ∷ []) new

-- parts are written behind those that are
abbrev pub WritesParts : List TableEntry → TableParts → TableParts → Type 0
WritesParts more old new = (parts : List TableEntry) → AreWritten parts old → AreWritten (parts ++ more) new

-- a part by its name, with its bytes
abbrev pub named_entry : TablePart × Bor (List ℕ) → TableEntry
named_entry part = entry (pair_number part.0) part.1.now
