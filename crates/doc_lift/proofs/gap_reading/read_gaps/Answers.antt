use Rattle.doc_lift.proofs.FillLemmas.{no_streams, no_front, filled_found}
use Rattle.doc_lift.proofs.StreamLemmas.{streams_none, streams_some, front_none, front_some}
use Rattle.doc_lift.proofs.gap_reading.read_gaps.Goals as goal

pub returns-in_default : goal.returns-in_default
returns-in_default c =
    no_streams c.args.fib.now c.args.wd.now c.args.table.now c.args.units.now
    (streams_none c.args.fib.now c.args.wd.now c.args.table.now c.in_ok-filled.field-0 c.in_default.is
    c.in_ok-filled.ensures)

pub returns-in_default-2 : goal.returns-in_default-2
returns-in_default-2 c =
    let own = c.args.fib.now in
    let wd = c.args.wd.now in
    let table = c.args.table.now in
    let filled = c.in-Some.filled in
    let has = streams_some own wd table c.in_ok-filled.field-0 filled c.in-Some.is c.in_ok-filled.ensures in
    no_front own wd table filled.wd.items filled.table.items c.args.units.now c.requires.are.bins has.are
    (front_none own filled.wd.items filled.table.items c.args.units.now c.in_ok-text.field-0 c.in_default-2.is
    c.in_ok-text.ensures)

pub returns : goal.returns
returns c =
    let own = c.args.fib.now in
    let wd = c.args.wd.now in
    let table = c.args.table.now in
    let units = c.args.units.now in
    let filled = c.in-Some.filled in
    let text = c.in-Some-2.text in
    let has = streams_some own wd table c.in_ok-filled.field-0 filled c.in-Some.is c.in_ok-filled.ensures in
    let front = front_some own filled.wd.items filled.table.items units c.in_ok-text.field-0 text c.in-Some-2.is
    c.in_ok-text.ensures in
    record {
      filled = text;
      is = filled_found own wd table filled.wd.items filled.table.items units text has.are front;
      rules = c.in_ok-document.ensures.0;
      document_is = c.in_ok-document.ensures.1;
    }
