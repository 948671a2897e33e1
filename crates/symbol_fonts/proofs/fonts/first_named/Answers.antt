-- The fonts, one by one.
use Rattle.std.proofs.Common.{◌≡◌, ◌∙◌, ◌-◌, ◌+◌, refl, sym, ap, arith}
use Rattle.doc_bits.specs.Number.{u16_at}
use Rattle.std.specs.Prelude.{slice_index}
use Rattle.symbol_fonts.proofs.TableLemmas.{named_from, named_here, named_later, none_behind, none_left, none_whole}
use Rattle.symbol_fonts.proofs.fonts.first_named.Goals as goal

pub returns-then-table-lt-FIRST_FONT : goal.returns-then-table-lt-FIRST_FONT
returns-then-table-lt-FIRST_FONT c =
    let table = c.args.table.now in
    none_behind c.args.name.now table 0 (u16_at table 0) 4 (omega (arith, c.if-table-lt-FIRST_FONT.true))

pub loop-number-init : goal.loop-number-init
loop-number-init c =
    let table = c.args.table.now in
    let all : u16_at table 0 ≡ u16_at table 0 - 0 = omega arith in
    record {
      within = omega (arith, c.if-table-lt-FIRST_FONT.false);
      same = ap (λ n. named_from c.args.name.now table 0 n 4) all;
    }

pub returns-then-at-table : goal.returns-then-at-table
returns-then-at-table c =
    let table = c.args.table.now in
    let old = c.loop-number in
    none_behind c.args.name.now table old.number (u16_at table 0 - old.number) old.at (omega (arith, c.if-at-table.true))
    ∙ sym old.invariant.same

pub returns-then-end-table : goal.returns-then-end-table
returns-then-end-table c =
    let table = c.args.table.now in
    let old = c.loop-number in
    none_whole c.args.name.now table (u16_at table 0) old.number old.at (old.at + 1 + slice_index table old.at)
    (omega (arith, c.loop-number-test.true, c.get16-number-end.ensures)) (omega (arith, c.if-at-table.false))
    refl (omega (arith, c.if-end-table.true))
    ∙ sym old.invariant.same

pub returns-then-is_named : goal.returns-then-is_named
returns-then-is_named c =
    let table = c.args.table.now in
    let old = c.loop-number in
    named_here c.args.name.now table (u16_at table 0) old.number old.at (old.at + 1 + slice_index table old.at)
    (omega (arith, c.loop-number-test.true, c.get16-number-end.ensures)) (omega (arith, c.if-at-table.false))
    refl (omega (arith, c.if-end-table.false)) (sym c.is_named.ensures ∙ c.if-is_named.true)
    ∙ sym old.invariant.same

pub loop-number-preserved : goal.loop-number-preserved
loop-number-preserved c =
    let table = c.args.table.now in
    let old = c.loop-number in
    record {
      within = omega (arith, c.if-end-table.false);
      same =
          old.invariant.same ∙ named_later c.args.name.now table (u16_at table 0) old.number old.at (old.at + 1 + slice_index table old.at)
          (omega (arith, c.loop-number-test.true, c.get16-number-end.ensures)) (omega (arith, c.if-at-table.false))
          refl (omega (arith, c.if-end-table.false))
          (sym c.is_named.ensures ∙ c.if-is_named.false);
    }

pub returns : goal.returns
returns c =
    let table = c.args.table.now in
    let old = c.loop-number in
    none_left c.args.name.now table old.number (u16_at table 0 - old.number) old.at
    (omega (arith, c.loop-number-test.false, c.get16-number-end.ensures))
    ∙ sym old.invariant.same
