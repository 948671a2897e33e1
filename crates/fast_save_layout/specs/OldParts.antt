-- The parts of a table stream by the fields of a FIB.
use Rattle.std.specs.Prelude.{ℕ, ◌+◌, ◌≤◌, List, length, slice_range}
use Rattle.fib_form.specs.FibFields.{FibFields, listed_pair}
use Rattle.fib_form.specs.TableParts.{pair_number}
use Rattle.fib_form.specs.declared.table_parts.TablePart.{TablePart}

abbrev pub named_pair : FibFields → TablePart → ℕ × ℕ
named_pair fib part = listed_pair fib.pairs (pair_number part)

-- the part ends within the stream
abbrev pub StaysWithin : FibFields → List ℕ → TablePart → Type 0
StaysWithin fib table part = (named_pair fib part).0 + (named_pair fib part).1 ≤ length table

-- its bytes
abbrev pub named_part : FibFields → List ℕ → TablePart → List ℕ
named_part fib table part = slice_range table (named_pair fib part).0 ((named_pair fib part).0 + (named_pair fib
    part).1)
