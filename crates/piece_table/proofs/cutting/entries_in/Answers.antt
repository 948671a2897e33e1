-- The spots of the first and the last CP tell the entries.
use Rattle.std.proofs.Common.{◌+◌, arith}
use Rattle.std.proofs.lemmas.Option.{slice_get_within}
use Rattle.piece_table.proofs.BlockLemmas.{units-entries}
use Rattle.piece_table.proofs.RangeLemmas.{met_told}
use Rattle.piece_table.proofs.cutting.entries_in.Goals as goal

pub spot-begin-requires : goal.spot-begin-requires
spot-begin-requires c = omega (arith, units-entries c.args.entries.now.items, c.requires.order, c.requires.within)

pub spot-end-requires : goal.spot-end-requires
spot-end-requires c = omega (arith, units-entries c.args.entries.now.items, c.requires.order, c.requires.within)

pub overflow_add-end : goal.overflow_add-end
overflow_add-end c =
    let is = c.spot-end.ensures in
    omega (
      arith,
      slice_get_within c.args.entries.now.items c.spot-end.result.item is.item is.there,
      c.requires.few,
    )

pub copy-requires-clause-order : goal.copy-requires-clause-order
copy-requires-clause-order c =
    (met_told c.args.entries.now.items c.args.from c.args.to c.spot-begin.result c.spot-end.result c.requires.order
    c.spot-begin.ensures c.spot-end.ensures).0

pub copy-requires-clause-within : goal.copy-requires-clause-within
copy-requires-clause-within c =
    (met_told c.args.entries.now.items c.args.from c.args.to c.spot-begin.result c.spot-end.result c.requires.order
    c.spot-begin.ensures c.spot-end.ensures).1.0

pub returns : goal.returns
returns c =
    let told = met_told c.args.entries.now.items c.args.from c.args.to c.spot-begin.result c.spot-end.result
    c.requires.order c.spot-begin.ensures c.spot-end.ensures in
    record {
      first = c.spot-begin.result.item;
      last = c.spot-end.result.item + 1;
      order = told.0;
      within = told.1.0;
      range = c.in_ok-range.ensures;
      begin = told.1.1.0;
      end = told.1.1.1;
    }
