use Rattle.std.proofs.Common.{ℕ, List, length, slice_index, sym, ap, subst, arith}
use Rattle.std.proofs.lemmas.List.{length_push}
use Rattle.cfb_in_place.specs.Tables.{IsEntryAfter}
use Rattle.cfb_in_place.proofs.TableLemmas.{fat_changes, entries_more}
use Rattle.cfb_in_place.proofs.tables.fat_after.Goals as goal

pub loop-sector-preserved : goal.loop-sector-preserved
loop-sector-preserved c =
    let items = c.in_ok-push.ensures.items in
    let before = c.loop-sector.invariant.len in
    record {
      len = (let more = ap (λ (xs : List ℕ). length xs) items in let one = length_push c.loop-sector.fat.items
          c.entry_after.result in omega arith);
      each = λ k h. subst (λ (xs : List ℕ). IsEntryAfter c.change_old.new.entries c.args.added.now k (slice_index xs
          k)) (sym items) (entries_more c.change_old.new.entries c.loop-sector.fat.items c.args.added.now
          c.loop-sector.sector c.entry_after.result before c.loop-sector.invariant.each c.entry_after.ensures k h);
    }

pub returns-clause-entries : goal.returns-clause-entries
returns-clause-entries c =
    let past = c.loop-sector-test.false in
    fat_changes c.args.entries.now c.change_old.new.entries _ c.args.chains.now c.args.added.now c.args.covered
    c.change_old.ensures c.requires (λ k h. c.loop-sector.invariant.each k (omega arith))
