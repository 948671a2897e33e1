use Rattle.std.proofs.Common.{◌≡◌, ◌∙◌, ◌∷◌, [], ap, refl, subst, sym, map, rules}
use Rattle.std.specs.Process.{exit_status}
use Rattle.std.specs.String.{string_bytes}
use denote.Param.Object.{read_made}
use Rattle.edit_guards.specs.Policies.{Policy, quota_of}
use Rattle.fast_save.proofs.Public.{equal_files_have_one_save}
use Rattle.doc_run.specs.Endings.{IsEnding}
use Rattle.run_stages.specs.Leaves.{IsToldOfPut}
use Rattle.doc_run.specs.Completeness.{CanServe}
use Rattle.doc_run.specs.Quota.{program_policies}
use Rattle.doc_run.proofs.OneLemmas.{ending_one}
use Rattle.doc_run.proofs.quota.program.OwnLists.{own-1, at-1-1}
use Rattle.doc_run.proofs.quota.program.Given.{Over}
use Rattle.doc_run.proofs.quota.program.Goals as goal

-- the one guard is the quota
quota_policies :
    (g : Over) (c : goal.After-from-2 g) →
    map (λ b. ((own-1).entry b.vtable).1.policy b.value) c.push.new.self.items ≡ program_policies
quota_policies g c =
    let policy : ((own-1).entry c.into_dyn_box.result.vtable).1.policy c.into_dyn_box.result.value
    ≡ quota_of c.in-Ok.quota.value =
    read_made own-1 ((own-1).entry at-1-1) at-1-1 refl Policy (λ j v. j.1.policy v) c.into_dyn_box.result.vtable
    c.into_dyn_box.result.value c.in-Ok.quota.value c.into_dyn_box.ensures.1 in
    let items : c.push.new.self.items ≡ c.into_dyn_box.result ∷ [] = search rules in
    let units : c.in-Ok.quota.value ≡ 1000000 = search rules in
    ap (map (λ b. ((own-1).entry b.vtable).1.policy b.value)) items
    ∙ (ap (λ p. p ∷ []) (policy ∙ ap quota_of units))

-- the exit code is the status
code_is : (g : Over) (c : goal.After-from-2 g) → exit_status c.from-2.result ≡ c.run_telling-status.result
code_is g c = search rules

pub returns-clause-unchanged : goal.returns-clause-unchanged
returns-clause-unchanged g c zero five told =
    let is = code_is g c in
    c.run_telling-status.ensures.unchanged (λ b. zero (is ∙ b)) (λ b. five (is ∙ b))
    (subst (λ s. IsToldOfPut s (g.S.Shelf.put_faults c.args.shelf.now) (g.S.Shelf.put_faults c.run_telling-status.new.shelf)) is told)

pub returns-clause-ending : goal.returns-clause-ending
returns-clause-ending g c five six =
    let is = code_is g c in
    let e = c.run_telling-status.ensures.ending (λ b. five (is ∙ b)) (λ b. six (is ∙ b)) in
    let words = map string_bytes c.args.words.now in
    let held = g.S.Shelf.held c.args.shelf.now in
    (e.0, (e.1.0 ∙ sym is, (subst (λ p. IsEnding p words held e.0) (quota_policies g c) e.1.1.0, e.1.1.1)))

pub returns-clause-prefix : goal.returns-clause-prefix
returns-clause-prefix g c five =
    let e = c.run_telling-status.ensures.prefix (sym (code_is g c) ∙ five) in
    let words = map string_bytes c.args.words.now in
    let held = g.S.Shelf.held c.args.shelf.now in
    (e.0, (subst (λ p. IsEnding p words held e.0) (quota_policies g c) e.1.0, e.1.1))

pub returns-clause-complete : goal.returns-clause-complete
returns-clause-complete g c command files asked told can shelf sink six =
    code_is g c ∙ c.run_telling-status.ensures.complete command files asked told
    (subst (λ p. CanServe p command files) (sym (quota_policies g c)) can) shelf sink (λ b. six (code_is g c ∙ b))

pub returns-in_default-clause-only : goal.returns-in_default-clause-only
returns-in_default-clause-only g c = ending_one

pub returns-then-is_err-clause-only : goal.returns-then-is_err-clause-only
returns-then-is_err-clause-only g c = ending_one

pub returns-in_default-clause-equal_saves : goal.returns-in_default-clause-equal_saves
returns-in_default-clause-equal_saves g c = equal_files_have_one_save

pub returns-then-is_err-clause-equal_saves : goal.returns-then-is_err-clause-equal_saves
returns-then-is_err-clause-equal_saves g c = equal_files_have_one_save
