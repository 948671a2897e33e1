use Rattle.std.proofs.Common.{◌≡◌, ℕ, ◌+◌, ◌<◌}
use Rattle.doc_bits.specs.Rules.{Nowhere}
use Rattle.piece_table.specs.Clx.{prc_place}
use Rattle.piece_table.specs.ClxRules.{IsLongPrc}
use Rattle.piece_table.specs.Numbering.{HasMet}
use Rattle.piece_table.proofs.prcs.prc_modifiers.Given as goal

-- the rule holds at the Prcs before this one, and the table has their modifiers
abbrev pub invariant-loop-i : goal.invariant-loop-i
invariant-loop-i l =
    (l.place ≡ l.at + prc_place l.parts.prcs l.i)
    × (((j : ℕ) → j < l.i → Nowhere (IsLongPrc (record { prcs = l.parts.prcs; plc = l.parts.plc }) l.at j))
    × HasMet l.parts.prcs l.table.modifiers.items l.table.numbers.items)
