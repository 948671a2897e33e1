use Rattle.std.proofs.Common.{ap, ◌∙◌, not, map as each, rules}
use Rattle.std.proofs.lemmas.Map.Made.{filter_same_pairs}
use Rattle.std.specs.FinMap.{from_sorted, retain_keys}
use Rattle.sprm_table.specs.Codes.{is_code_among}
use Rattle.prop_map.proofs.ChangeLemmas.{sorted-where, from_sorted-where}
use Rattle.prop_map.proofs.draft.Draft.remove.Goals as goal

pub invariant_of-self : goal.invariant_of-self
invariant_of-self c =
    let codes = each (λ k. k.0) c.args.codes.now in
    let kept = filter_same_pairs _ (λ e. not (is_code_among e.0 codes)) _ (λ k v b w f t. search rules) _ _
    c.retain.ensures.filtered in
    rw kept (sorted-where (λ k. not (is_code_among k codes)) c.self.inside.tree.entries c.self.invariant)

pub returns : goal.returns
returns c =
    let codes = each (λ k. k.0) c.args.codes.now in
    let kept = filter_same_pairs _ (λ e. not (is_code_among e.0 codes)) _ (λ k v b w f t. search rules) _ _
    c.retain.ensures.filtered in
    ap from_sorted kept ∙ (from_sorted-where (λ k. not (is_code_among k codes)) c.self.inside.tree.entries
    c.self.invariant
    ∙ ap (λ m. retain_keys m (λ k. not (is_code_among k codes))) c.self.view_is)
