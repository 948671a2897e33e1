use Rattle.std.proofs.Common.{◌≡◌, ℕ, List, length, ◌+◌, ◌≤◌, ◌<◌, subst, sym, ap, arith}
use Rattle.doc_bits.specs.Plc.{PlcPart, IsPlcOf}
use Rattle.doc_bits.specs.Rules.{LeastOrNone}
use Rattle.doc_parts.specs.Table.{plc_part, IsWholePlc}
use Rattle.doc_parts.proofs.Public.{table_of_plc, count_of_whole}
use Rattle.file_rules.specs.BinRules.{IsPlcBte, HasNoAscent}
use Rattle.file_rules.proofs.RowLemmas.{wrong_part, right_part}
use Rattle.file_rules.proofs.bins.wrong_bin.Goals as goal

-- no fc is before the part
after_part : (table : PlcPart) (at p : ℕ) → HasNoAscent table at p → at ≤ p
after_part table at p w = let here = w.broken.here in omega arith

pub returns-in_default : goal.returns-in_default
returns-in_default c =
    let bytes = c.args.bytes.now in
    wrong_part (IsPlcBte (plc_part 4 bytes)) c.args.at (HasNoAscent (plc_part 4 bytes) c.args.at)
    (λ formed. c.in_default.ensures (plc_part 4 bytes).count formed.0) (after_part (plc_part 4 bytes) c.args.at)

pub returns-then-len-eq0 : goal.returns-then-len-eq0
returns-then-len-eq0 c =
    let bytes = c.args.bytes.now in
    let same : c.in-Ok.table ≡ plc_part 4 bytes = table_of_plc c.in-Ok.table bytes 4 c.in-Ok.ensures.0
    c.in-Ok.ensures.1 in
    let count : c.in-Ok.table.count ≡ (plc_part 4 bytes).count = ap (λ (t : PlcPart). t.count) same in
    let none : ¬ (IsPlcBte (plc_part 4 bytes)) = λ formed. let some = formed.1 in omega (
      arith,
      c.len.ensures,
      c.if-len-eq0.true,
    ) in
    wrong_part (IsPlcBte (plc_part 4 bytes)) c.args.at (HasNoAscent (plc_part 4 bytes) c.args.at) none
    (after_part (plc_part 4 bytes) c.args.at)

whole_table : (bytes : List ℕ) (count : ℕ) → IsPlcOf bytes 4 count → IsWholePlc (plc_part 4 bytes)
whole_table bytes count h = rw (count_of_whole bytes 4 count h) h

pub no_ascent-requires : goal.no_ascent-requires
no_ascent-requires c =
    let bytes = c.args.bytes.now in
    let same : c.in-Ok.table ≡ plc_part 4 bytes = table_of_plc c.in-Ok.table bytes 4 c.in-Ok.ensures.0
    c.in-Ok.ensures.1 in
    record {
      whole = subst (λ (t : PlcPart). IsWholePlc t) (sym same) (whole_table bytes c.in-Ok.table.count
          c.in-Ok.ensures.1);
      addressed = subst (λ (t : PlcPart). c.args.at + length t.bytes < 4294967296) (sym same) c.requires;
    }

pub returns : goal.returns
returns c =
    let bytes = c.args.bytes.now in
    let same : c.in-Ok.table ≡ plc_part 4 bytes = table_of_plc c.in-Ok.table bytes 4 c.in-Ok.ensures.0
    c.in-Ok.ensures.1 in
    let count : c.in-Ok.table.count ≡ (plc_part 4 bytes).count = ap (λ (t : PlcPart). t.count) same in
    let formed : IsPlcBte (plc_part 4 bytes) = (
      whole_table bytes c.in-Ok.table.count c.in-Ok.ensures.1,
      omega (
        arith,
        c.len.ensures,
        c.if-len-eq0.false,
      ),
    ) in
    let rows = subst (λ (t : PlcPart). LeastOrNone (HasNoAscent t c.args.at) c.no_ascent.result) same
    c.no_ascent.ensures in
    right_part (IsPlcBte (plc_part 4 bytes)) c.args.at (HasNoAscent (plc_part 4 bytes) c.args.at) c.no_ascent.result
    formed rows
