use Rattle.std.proofs.Common.{◌≡◌, ◌∙◌, subst, sym, map, rules}
use Rattle.std.specs.Process.{exit_status}
use Rattle.std.specs.String.{string_bytes}
use Rattle.run_stages.specs.Leaves.{IsCaused}
use Rattle.docview_run.specs.Endings.{IsEnding, RunEnds}
use Rattle.docview_run.specs.Pictured.{Leaves}
use Rattle.docview_run.specs.Requests.{requested}
use Rattle.docview_run.proofs.exit_code.program.Given.{Over}
use Rattle.docview_run.proofs.exit_code.program.Goals as goal

-- the exit code is the status
code_is : (g : Over) (c : goal.After-from g) → exit_status c.from.result ≡ c.docview_run-status.result
code_is g c = search rules

pub returns-clause-leaves : goal.returns-clause-leaves
returns-clause-leaves g c =
    let words = map string_bytes c.args.words.now in
    subst (λ s. Leaves g.S.Shelf (requested words) s c.args.shelf.now c.docview_run-status.new.shelf)
    (sym (code_is g c)) c.docview_run-status.ensures.leaves

pub returns-clause-ends : goal.returns-clause-ends
returns-clause-ends g c =
    let words = map string_bytes c.args.words.now in
    subst (λ s. RunEnds (IsEnding words (g.S.Shelf.held c.args.shelf.now)) g.K.Sink c.args.out.now
    c.docview_run-status.new.out s)
    (sym (code_is g c)) c.docview_run-status.ensures.ends

pub returns-clause-safe : goal.returns-clause-safe
returns-clause-safe g c zero = c.docview_run-status.ensures.safe (sym (code_is g c) ∙ zero)

pub returns-clause-usage : goal.returns-clause-usage
returns-clause-usage g c =
    let is = code_is g c in
    let e = c.docview_run-status.ensures.usage in
    (λ two. e.0 (sym is ∙ two), λ none. is ∙ e.1 none)

pub returns-clause-cause : goal.returns-clause-cause
returns-clause-cause g c =
    subst (λ s. IsCaused g.S.Shelf c.args.shelf.now c.docview_run-status.new.shelf s) (sym (code_is g c))
    c.docview_run-status.ensures.cause
