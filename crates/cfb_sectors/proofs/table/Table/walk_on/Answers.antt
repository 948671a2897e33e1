use Rattle.std.proofs.Common.{length, slice_index, sym, ap, ◌∙◌, subst}
use Rattle.cfb_sectors.specs.Walk.{IsChainWalk}
use Rattle.cfb_sectors.specs.Tables.{table_at}
use Rattle.cfb_sectors.proofs.TableLemmas.{kept_walk}
use Rattle.cfb_sectors.proofs.table.Table.walk_on.Goals as goal

pub returns-clause-walk : goal.returns-clause-walk
returns-clause-walk c =
    let w1 = subst (λ xs. IsChainWalk (λ s. slice_index xs s) (length c.args.marks.now) c.args.start
    c.in_ok-walked.walked.next c.in_ok-walked.walked.path.items) c.deref.ensures.value c.in_ok-walked.ensures.walk in
    let w2 = subst (λ n. IsChainWalk (λ s. slice_index c.self.inside.entries.items s) n c.args.start
    c.in_ok-walked.walked.next c.in_ok-walked.walked.path.items)
    (c.requires ∙ sym (ap (λ t. t.valid) c.self.view_is)) w1 in
    subst (λ t. IsChainWalk (table_at t).entry t.valid c.args.start c.in_ok-walked.walked.next
    c.in_ok-walked.walked.path.items) c.self.view_is
    (kept_walk c.self.inside.file.now c.self.inside.sectors.items c.self.inside.entries.items
    (length c.self.inside.marks) c.args.start c.in_ok-walked.walked.next c.in_ok-walked.walked.path.items
    c.self.invariant.kept w2)
