use Rattle.std.proofs.Common.{◌≡◌, ◌∙◌, subst, sym, rules}
use Rattle.std.specs.Process.{exit_status}
use Rattle.run_stages.specs.Leaves.{IsToldOfPut}
use Rattle.docfit_run.specs.Laws.{IsAcceptedStatus}
use Rattle.docfit_run.proofs.exit_code.program.Given.{Over}
use Rattle.docfit_run.proofs.exit_code.program.Goals as goal

-- the exit code is the status
code_is : (g : Over) (c : goal.After-from g) → exit_status c.from.result ≡ c.docfit_run-status.result
code_is g c = search rules

pub returns-clause-unchanged : goal.returns-clause-unchanged
returns-clause-unchanged g c zero five told =
    let is = code_is g c in
    c.docfit_run-status.ensures.unchanged (λ b. zero (is ∙ b)) (λ b. five (is ∙ b))
    (subst (λ s. IsToldOfPut s (g.S.Shelf.put_faults c.args.shelf.now)
    (g.S.Shelf.put_faults c.docfit_run-status.new.shelf)) is told)

pub returns-clause-ending : goal.returns-clause-ending
returns-clause-ending g c five six =
    let is = code_is g c in
    let e = c.docfit_run-status.ensures.ending (λ b. five (is ∙ b)) (λ b. six (is ∙ b)) in
    (e.0, (e.1.0 ∙ sym is, e.1.1))

pub returns-clause-usage : goal.returns-clause-usage
returns-clause-usage g c five six =
    let is = code_is g c in
    let e = c.docfit_run-status.ensures.usage (λ b. five (is ∙ b)) (λ b. six (is ∙ b)) in
    (λ two. e.0 (sym is ∙ two), λ none. is ∙ e.1 none)

pub returns-clause-unrefused : goal.returns-clause-unrefused
returns-clause-unrefused g c plain file name files bytes asked told there accepted =
    subst IsAcceptedStatus (sym (code_is g c))
    (c.docfit_run-status.ensures.unrefused plain file name files bytes asked told there accepted)

pub returns-clause-complete : goal.returns-clause-complete
returns-clause-complete g c plain file name files asked told can shelf sink six =
    let is = code_is g c in
    is ∙ c.docfit_run-status.ensures.complete plain file name files asked told can shelf sink (λ b. six (is ∙ b))
