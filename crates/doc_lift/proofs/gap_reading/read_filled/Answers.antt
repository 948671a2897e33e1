use Rattle.std.proofs.Common.{ap, subst, refl, ℕ, List, length, arith}
use Rattle.std.proofs.lemmas.Result.{err_from_is_err_and}
use Rattle.file_rules.specs.FileRules.{doc_source_of}
use Rattle.doc_lift.specs.Reading.{IsRefusedAtGap, IsReadAtGaps}
use Rattle.doc_lift.proofs.FillLemmas.{gap_of, gap_bins, to_streams, HaveBinTables, plain_read, plain_refused}
use Rattle.doc_lift.proofs.FillLemmas.{gap_read, gap_refused, gap_stays}
use Rattle.doc_lift.proofs.StreamLemmas.{HasNoFilledText, document_none, document_some}
use Rattle.doc_lift.proofs.gap_reading.read_filled.Goals as goal

pub returns-then-not-is_gap_fault : goal.returns-then-not-is_gap_fault
returns-then-not-is_gap_fault c =
    plain_refused c.args.fib.now c.args.front.units.items c.args.front.text c.in-Err.fault c.in-Err.ensures
    (λ gap. absurd (cc (c.is_gap_fault.ensures.1 gap, c.if-not-is_gap_fault.true)))

pub read_gaps-requires-clause-are : goal.read_gaps-requires-clause-are
read_gaps-requires-clause-are c =
    let read = c.requires.read in
    let text = c.args.front.text in
    let gap = gap_of (doc_source_of text) c.in-Err.fault c.in-Err.ensures
    (c.is_gap_fault.ensures.0 c.if-not-is_gap_fault.false) in
    record {
      own = read.own;
      long = read.long;
      short = read.short;
      table_short = omega (arith, c.requires.room.short, ap length read.table_is);
      fields = read.fields;
      bins = to_streams HaveBinTables text c.args.wd.now c.args.table.now read.wd_is read.table_is
          (gap_bins (doc_source_of text) gap);
    }

pub returns-in_err-document-in-Err : goal.returns-in_err-document-in-Err
returns-in_err-document-in-Err c =
    let read = c.requires.read in
    let own = c.args.fib.now in
    let text = c.args.front.text in
    let units = c.args.front.units.items in
    let fault = c.in_err-document-in-Err.field-0.0 in
    let gap = gap_of (doc_source_of text) c.in-Err.fault c.in-Err.ensures
    (c.is_gap_fault.ensures.0 c.if-not-is_gap_fault.false) in
    let refused : IsRefusedAtGap own c.args.wd.now c.args.table.now units fault =
    subst (λ (us : List ℕ). IsRefusedAtGap own c.args.wd.now c.args.table.now us fault) c.deref.ensures.value
    c.in_err-document-in-Err.ensures in
    let p = err_from_is_err_and c.from_residual.result c.from_residual.ensures.1 in
    rw (p.1, p.2)
    (gap_refused own units c.args.wd.now c.args.table.now text fault read.wd_is read.table_is gap refused)

pub returns-in-Ok : goal.returns-in-Ok
returns-in-Ok c = record {
  document_is = plain_read c.args.fib.now c.args.front.units.items c.args.container.now c.args.front.text
      c.in-Ok.document c.in-Ok.ensures.0 c.in-Ok.ensures.1;
  units_are = refl;
}

pub returns-in-Some : goal.returns-in-Some
returns-in-Some c =
    let read = c.requires.read in
    let own = c.args.fib.now in
    let wd = c.args.wd.now in
    let table = c.args.table.now in
    let contents = c.args.container.now in
    let text = c.args.front.text in
    let units = c.args.front.units.items in
    let gap = gap_of (doc_source_of text) c.in-Err.fault c.in-Err.ensures
    (c.is_gap_fault.ensures.0 c.if-not-is_gap_fault.false) in
    let found = document_some own wd table c.deref.result.now contents c.in_ok-document-in-Err.field-0
    c.in-Some.document c.in-Some.is c.in_ok-document-in-Err.ensures in
    record {
      document_is = gap_read own units wd table contents text c.in-Some.document read.wd_is read.table_is gap
          (subst (λ (us : List ℕ). IsReadAtGaps own wd table us contents c.in-Some.document) c.deref.ensures.value
          found);
      units_are = refl;
    }

pub returns-in-None : goal.returns-in-None
returns-in-None c =
    let read = c.requires.read in
    let own = c.args.fib.now in
    let wd = c.args.wd.now in
    let table = c.args.table.now in
    let text = c.args.front.text in
    let units = c.args.front.units.items in
    let none = document_none own wd table c.deref.result.now c.args.container.now c.in_ok-document-in-Err.field-0
    c.in-None.is c.in_ok-document-in-Err.ensures in
    gap_stays own units wd table text c.in-Err.fault read.wd_is read.table_is c.in-Err.ensures
    (subst (HasNoFilledText own wd table) c.deref.ensures.value none)
