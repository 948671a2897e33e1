use Rattle.std.proofs.Common.{◌≡◌, ◌-◌, ◌≤◌, length}
use Rattle.doc_bits.specs.Number.{u16_at}
use Rattle.symbol_fonts.specs.Fonts.{first_named, fonts_in}
use Rattle.symbol_fonts.proofs.TableLemmas.{named_from}
use Rattle.symbol_fonts.proofs.fonts.first_named.Given as goal

-- no font so far has the name
abbrev pub invariant-loop-number : goal.invariant-loop-number
invariant-loop-number l = record {
  within : l.at ≤ length l.table;
  same : first_named l.name 0 (fonts_in l.table)
      ≡ named_from l.name l.table l.number (u16_at l.table 0 - l.number) l.at;
}
