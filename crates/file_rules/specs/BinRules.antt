-- The rules on the bin tables, 37 and 38. The page of a byte of text is found by them.
use Rattle.std.specs.Prelude.{◌⊎◌, ℕ, ◌+◌, ◌*◌, ◌≤◌, List}
use Rattle.doc_bits.specs.declared.places.Where.TheVariants as stands
use Rattle.doc_bits.specs.Plc.{PlcPart, plc_cp}
use Rattle.doc_bits.specs.Rules.{Rules, rule, ◌then◌}
use Rattle.doc_bits.specs.Places.{Place, rules_in}
use Rattle.doc_parts.specs.Table.{plc_part, IsWholePlc, IsMalformedPart}
use Rattle.fib_form.specs.declared.table_parts.TablePart.TheVariants.{PlcfBteChpx, PlcfBtePapx}
use Rattle.file_rules.specs.Source.{DocSource, part_place, table_part_bytes}
use Rattle.file_rules.specs.Rows.{HasWrongRow}

-- [MS-DOC] PlcBteChpx and PlcBtePapx: fcs, and page numbers of 4 bytes; one at least
abbrev pub IsPlcBte : PlcPart → Type 0
IsPlcBte table = IsWholePlc table × (1 ≤ table.count)

-- the fc after entry k is not above the one before it
abbrev pub IsNoFcAscent : PlcPart → ℕ → Type 0
IsNoFcAscent table k = plc_cp table.bytes (k + 1) ≤ plc_cp table.bytes k

abbrev pub HasNoAscent : PlcPart → ℕ → ℕ → Type 0
HasNoAscent table at = HasWrongRow table.count (λ k. at + 4 * (k + 1)) (IsNoFcAscent table)

-- a bin table breaks its rule
abbrev pub BreaksBinTable : List ℕ → ℕ → ℕ → Type 0
BreaksBinTable bytes at place =
    let table = plc_part 4 bytes in IsMalformedPart (IsPlcBte table) at place ⊎ HasNoAscent table at place

-- the rules 37 and 38: the table of characters, and that of paragraphs
abbrev pub rules_of_bins : DocSource → Rules Place
rules_of_bins source =
    rules_in stands.Table (rule 37 (BreaksBinTable (table_part_bytes source PlcfBteChpx) (part_place source
    PlcfBteChpx)))
    then rules_in stands.Table
    (rule 38 (BreaksBinTable (table_part_bytes source PlcfBtePapx) (part_place source PlcfBtePapx)))
