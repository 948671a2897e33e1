use Rattle.std.proofs.Common.{◌≡◌, ◌∙◌, ◌∷◌, [], ap, refl, subst, map, rules}
use Rattle.std.specs.Prelude.{Some, IfOk}
use Rattle.std.specs.String.{string_bytes}
use denote.Param.Object.{read_made}
use Rattle.edit_guards.specs.Policies.{Policy, quota_of}
use Rattle.doc_run.specs.Endings.{IsEnding}
use Rattle.doc_run.specs.Quota.{program_policies}
use Rattle.docbin_c.specs.Calls.{given_files}
use Rattle.docbin_c.proofs.serve.ending_under_quota.OwnLists.{own-1, at-1-1}
use Rattle.docbin_c.proofs.serve.ending_under_quota.Goals as goal

-- the one guard is the quota
quota_policies :
    (c : goal.After-drop-guards-2) →
    map (λ b. ((own-1).entry b.vtable).1.policy b.value) c.deref_mut.result.now ≡ program_policies
quota_policies c =
    let policy : ((own-1).entry c.into_dyn_box.result.vtable).1.policy c.into_dyn_box.result.value
    ≡ quota_of c.in_ok-quota.quota.value =
    read_made own-1 ((own-1).entry at-1-1) at-1-1 refl Policy (λ j v. j.1.policy v) c.into_dyn_box.result.vtable
    c.into_dyn_box.result.value c.in_ok-quota.quota.value c.into_dyn_box.ensures.1 in
    let items : c.push.new.self.items ≡ c.into_dyn_box.result ∷ [] = search rules in
    let units : c.in_ok-quota.quota.value ≡ 1000000 = search rules in
    ap (map (λ b. ((own-1).entry b.vtable).1.policy b.value)) (c.deref_mut.ensures.value ∙ items)
    ∙ (ap (λ p. p ∷ []) (policy ∙ ap quota_of units))

pub returns-clause-ending : goal.returns-clause-ending
returns-clause-ending c =
    subst (λ p. IfOk c.ending_of.result
    (IsEnding p (map string_bytes c.args.words.now) (Some (given_files c.args.files.now))))
    (quota_policies c) c.ending_of.ensures.ending
