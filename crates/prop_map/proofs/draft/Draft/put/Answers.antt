use Rattle.std.proofs.Common.{ap, ◌∙◌}
use Rattle.std.proofs.lemmas.Result.{err_from_is_err_and}
use Rattle.std.specs.FinMap.{from_sorted, insert}
use Rattle.prop_map.proofs.EntriesLemmas.{sorted-put, from_sorted-put}
use Rattle.prop_map.proofs.ChangeLemmas.{insert_entry-put}
use Rattle.prop_map.proofs.draft.Draft.put.Goals as goal

pub invariant_of-self-2 : goal.invariant_of-self-2
invariant_of-self-2 c = rw (
  c.in_ok-insert.ensures.entries,
  insert_entry-put c.self.inside.tree.entries c.args.code.0
      c.args.value,
) (sorted-put c.self.inside.tree.entries c.args.code.0 c.args.value c.self.invariant)

pub returns-clause-ok : goal.returns-clause-ok
returns-clause-ok c =
    ap from_sorted (c.in_ok-insert.ensures.entries ∙ insert_entry-put c.self.inside.tree.entries c.args.code.0
    c.args.value)
    ∙ (from_sorted-put c.self.inside.tree.entries c.args.code.0 c.args.value c.self.invariant ∙ ap (λ m. insert m
    c.args.code.0 c.args.value) c.self.view_is)

pub returns-in_err-insert-clause-err : goal.returns-in_err-insert-clause-err
returns-in_err-insert-clause-err c =
    let p = err_from_is_err_and c.from_residual.result c.from_residual.ensures.1 in
    rw p.1 (ap from_sorted c.in_err-insert.ensures.err ∙ c.self.view_is)
