use Rattle.std.proofs.Common.{◌≡◌, ◌+◌, ◌++◌, map, take, drop, slice_set, sym, subst, arith}
use Rattle.std.specs.Prelude.{slice_range}
use Rattle.piece_table.specs.declared.pieces.Entry.{Entry}
use Rattle.piece_table.specs.Cuts.{renumbered_entry}
use Rattle.piece_table.proofs.RenumberLemmas.{renumber_more}
use Rattle.piece_table.proofs.renumber.renumber.Goals as goal

pub loop-k-preserved : goal.loop-k-preserved
loop-k-preserved c =
    let f : Entry → Entry = renumbered_entry c.args.numbers.now in
    let old = c.args.entries.now.items in
    let new = c.loop-k.entries.items in
    let first = c.args.first in
    let k = c.loop-k.k in
    let entry = c.index-entry.result.now in
    let below = c.loop-k-test.true in
    let more = renumber_more f old new first k entry c.loop-k.auto.k (omega (arith, c.requires.within))
    c.loop-k.invariant.items in
    record {
      items = subst (λ e. slice_set new k (f e) ≡ take first old ++ (map f (slice_range old first (k + 1)) ++ drop
          (k + 1) old)) (sym c.index-entry.ensures) more;
      count = c.loop-k.invariant.count;
      room = c.loop-k.invariant.room;
    }
