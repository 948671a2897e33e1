use Rattle.std.proofs.Common.{◌≡◌, ◌+◌, ◌*◌, ◌≤◌}
use Rattle.std.specs.Prelude.{nat_lt}
use Rattle.std.specs.List.{count_by}
use Rattle.doc_bits.specs.Number.{u16_at}
use Rattle.doc_parts.specs.Tabulated.{tabulate}
use Rattle.style_sheet.specs.Stsh.{slot_place}
use Rattle.doc_losses.proofs.sheet.sheet_beyond.Given as goal

-- the styles so far, and where the next slot is
abbrev pub invariant-loop-istd : goal.invariant-loop-istd
invariant-loop-istd l = record {
  place : l.place ≡ slot_place l.part l._istd;
  low : l.place ≤ 65538 + l._istd * 65538;
  styles : l.styles ≡ count_by (nat_lt 0) (tabulate (λ istd. u16_at l.part (slot_place l.part istd)) l._istd);
  few : l.styles ≤ l._istd;
}
