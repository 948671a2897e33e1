use Rattle.std.proofs.Common.{Some, sym, ap, ◌∙◌}
use Rattle.std.specs.Ordering.{nat_cmp}
use Rattle.std.specs.FinMap.{get, get-from_sorted}
use Rattle.prop_map.proofs.EntriesLemmas.{of_true}
use Rattle.prop_map.proofs.ChangeLemmas.{find-lookup}
use Rattle.prop_map.proofs.draft.Draft.get.Goals as goal

pub returns-in-None : goal.returns-in-None
returns-in-None c =
    c.in-None.ensures.value
    ∙ (sym (find-lookup c.args.code.0 c.self.inside.tree.entries)
    ∙ (sym (get-from_sorted nat_cmp c.self.inside.tree.entries c.args.code.0 (of_true _ c.self.invariant))
    ∙ ap (λ m. get m c.args.code.0) c.self.view_is))

pub returns-in-Some : goal.returns-in-Some
returns-in-Some c =
    ap Some c.as_slice.ensures
    ∙ (c.in-Some.ensures.value
    ∙ (sym (find-lookup c.args.code.0 c.self.inside.tree.entries)
    ∙ (sym (get-from_sorted nat_cmp c.self.inside.tree.entries c.args.code.0 (of_true _ c.self.invariant))
    ∙ ap (λ m. get m c.args.code.0) c.self.view_is)))
