use Rattle.std.proofs.Common.{length, slice_index, sym, ap, ◌∙◌, subst}
use Rattle.cfb_sectors.specs.Ends.{IsEnd, Remembers}
use Rattle.cfb_sectors.specs.Tables.{IsKeptTable, table_at}
use Rattle.cfb_sectors.proofs.TableLemmas.{kept_end}
use Rattle.cfb_sectors.proofs.table.Table.end.Goals as goal

pub returns-in-Some-clause-end : goal.returns-in-Some-clause-end
returns-in-Some-clause-end c =
    let e = subst (IsEnd (λ s. slice_index c.self.inside.entries.items s) (length c.self.inside.marks) c.args.start)
    (sym c.in-Some.ensures.1)
    (c.self.invariant.remembers.ends c.args.start c.in-Some.ensures.0) in
    subst (λ t. IsEnd (table_at t).entry t.valid c.args.start c.in-Some.end) c.self.view_is
    (kept_end c.self.inside.file.now c.self.inside.sectors.items c.self.inside.entries.items
    (length c.self.inside.marks) c.args.start c.in-Some.end c.self.invariant.kept e)

pub invariant_of-self-2 : goal.invariant_of-self-2
invariant_of-self-2 c = record {
  kept = subst (IsKeptTable c.self.inside.file.now c.self.inside.sectors.items c.self.inside.entries.items)
      (sym c.walk_fresh.ensures.kept) c.self.invariant.kept;
  remembers =
      subst (λ n. Remembers (λ s. slice_index c.self.inside.entries.items s) n c.settle-end.new.ends)
      (c.self.invariant.remembers.counts_len ∙ sym c.walk_fresh.ensures.kept)
      (subst (λ xs. Remembers (λ s. slice_index xs s) (length c.self.inside.ends.counts) c.settle-end.new.ends)
      c.deref-2.ensures.value c.settle-end.ensures.remembers);
}

pub returns-clause-end : goal.returns-clause-end
returns-clause-end c =
    let start = ap (λ xs. slice_index xs 0) c.deref-3.ensures.value ∙ c.in_ok-path.ensures.path.path.first in
    let e1 = subst
    (λ xs. IsEnd (λ s. slice_index xs s) (length c.self.inside.ends.counts) (slice_index c.deref-3.result.now 0)
    c.settle-end.result) c.deref-2.ensures.value c.settle-end.ensures.end in
    let e2 = subst
    (λ n. IsEnd (λ s. slice_index c.self.inside.entries.items s) n (slice_index c.deref-3.result.now 0)
    c.settle-end.result) c.self.invariant.remembers.counts_len e1 in
    let e3 = subst
    (λ k. IsEnd (λ s. slice_index c.self.inside.entries.items s) (length c.self.inside.marks) k c.settle-end.result)
    start e2 in
    subst (λ t. IsEnd (table_at t).entry t.valid c.args.start c.settle-end.result) c.self.view_is
    (kept_end c.self.inside.file.now c.self.inside.sectors.items c.self.inside.entries.items
    (length c.self.inside.marks) c.args.start c.settle-end.result c.self.invariant.kept e3)
