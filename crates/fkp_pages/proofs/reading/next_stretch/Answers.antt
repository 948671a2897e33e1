use Rattle.std.proofs.Common.{MatchOption, refl, subst}
use Rattle.fkp_pages.specs.Fkp.{HasNoRun, IsFirstRun}
use Rattle.fkp_pages.proofs.StretchLemmas.{has_stretch, run_answers}
use Rattle.fkp_pages.proofs.reading.next_stretch.Goals as goal

pub returns-in-None-clause-stretch : goal.returns-in-None-clause-stretch
returns-in-None-clause-stretch c =
    let page = c.args.page.now in
    let found = c.first_run-found.ensures in
    has_stretch c.args.kind page c.args.fc _ found.from found.to
    (λ other a b. (
      c.if-not-has_run_count.ensures.0 refl,
      subst (λ run. MatchOption run (HasNoRun page other)
          (IsFirstRun page other)) c.in-None.is (found.each other a b),
    ))

pub returns-in-Some-clause-stretch : goal.returns-in-Some-clause-stretch
returns-in-Some-clause-stretch c =
    let page = c.args.page.now in
    let found = c.first_run-found.ensures in
    has_stretch c.args.kind page c.args.fc _ found.from found.to
    (λ other a b. run_answers c.args.kind page other c.in-Some.run' c.answer_of.result
    (c.if-not-has_run_count.ensures.0 refl)
    (subst (λ run. MatchOption run (HasNoRun page other) (IsFirstRun page other)) c.in-Some.is (found.each other a b))
    c.answer_of.ensures)
