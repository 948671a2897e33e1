use Rattle.std.proofs.Common.{◌≡◌, ◌++◌, map, take}
use Rattle.std.specs.List.{flat_map}
use Rattle.doc_bits.specs.Number.{number_bytes}
use Rattle.doc_parts.proofs.tables.print_table.Given as goal

-- the CPs so far
abbrev pub invariant-loop-entry : goal.invariant-loop-entry
invariant-loop-entry g l =
    l.bytes ≡ flat_map (number_bytes 4) (map g.E.TableEntry.form.cp_of (take l.entry-index l.entries))

-- all CPs, the last CP, and the entries so far
abbrev pub invariant-loop-entry-2 : goal.invariant-loop-entry-2
invariant-loop-entry-2 g l =
    l.bytes ≡ flat_map (number_bytes 4) (map g.E.TableEntry.form.cp_of l.entries)
    ++ (number_bytes 4 l.end ++ flat_map (λ entry. entry) (map g.E.TableEntry.form.bytes_of (take l.entry-index
    l.entries)))
