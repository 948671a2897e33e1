use Rattle.std.proofs.Common.{◌≡◌, length}
use Rattle.doc_bits.specs.Plc.{plc_entry}
use Rattle.doc_parts.specs.Table.{plc_part}
use Rattle.doc_parts.specs.Tabulated.{tabulate}
use Rattle.further_notes.specs.Forms.{initials_items}
use Rattle.further_notes.proofs.forms.comment_titles.Given as goal

-- the titles so far
abbrev pub invariant-loop-k : goal.invariant-loop-k
invariant-loop-k l = record {
  titles : l.titles ≡ tabulate (λ k. initials_items (plc_entry (plc_part 30 l.plc) k)) l.k;
  few : length l.titles ≡ l.k;
}
