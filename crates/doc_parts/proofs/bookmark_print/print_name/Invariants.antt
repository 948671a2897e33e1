use Rattle.std.proofs.Common.{◌≡◌, ◌++◌, length, take}
use Rattle.std.specs.List.{flat_map}
use Rattle.doc_bits.specs.Number.{number_bytes}
use Rattle.doc_parts.proofs.bookmark_print.print_name.Given as goal

-- the count, and the units so far
abbrev pub invariant-loop-unit : goal.invariant-loop-unit
invariant-loop-unit l =
    l.bytes ≡ l.fn.bytes ++ number_bytes 2 (length l.name)
    ++ flat_map (number_bytes 2) (take l.unit-index l.name)
