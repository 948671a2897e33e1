use Rattle.piece_table.specs.Numbering.{HasMet, AreEntriesOf}
use Rattle.piece_table.proofs.collect.entries_of.Given as goal

-- the pieces before this one are there, and the table has their modifiers
abbrev pub invariant-loop-k : goal.invariant-loop-k
invariant-loop-k l =
    AreEntriesOf (record { prcs = l.parts.prcs; plc = l.parts.plc }) l.table.modifiers.items l.k l.entries.items
    × HasMet l.parts.prcs l.table.modifiers.items l.table.numbers.items
