use Rattle.std.proofs.Common.{ap, ◌∙◌, rules}
use Rattle.std.proofs.lemmas.Map.Made.{filter_same_pairs}
use Rattle.std.specs.FinMap.{from_sorted, retain_keys}
use Rattle.prop_map.specs.Acting.{is_kept_by_plain}
use Rattle.prop_map.proofs.ChangeLemmas.{sorted-where, from_sorted-where}
use Rattle.prop_map.proofs.draft.Draft.clear.Goals as goal

pub invariant_of-self : goal.invariant_of-self
invariant_of-self c =
    let kept = filter_same_pairs _ (λ e. is_kept_by_plain e.0) _ (λ k v b w f t. search rules) _ _
    c.retain.ensures.filtered in
    rw kept (sorted-where is_kept_by_plain c.self.inside.tree.entries c.self.invariant)

pub returns : goal.returns
returns c =
    let kept = filter_same_pairs _ (λ e. is_kept_by_plain e.0) _ (λ k v b w f t. search rules) _ _
    c.retain.ensures.filtered in
    ap from_sorted kept ∙ (from_sorted-where is_kept_by_plain c.self.inside.tree.entries c.self.invariant ∙ ap
    (λ m. retain_keys m is_kept_by_plain) c.self.view_is)
