use Rattle.std.proofs.Common.{◌≡◌, subst, inl, inr, arith}
use Rattle.std.proofs.lemmas.Bool.{cases_lt}
use Rattle.fkp_pages.specs.declared.kind.PageKind.TheVariants.{Chpx}
use Rattle.fkp_pages.specs.Fkp.{IsListOf}
use Rattle.deleted_text.proofs.CodeLemmas.{run_in_page, run_silent}
use Rattle.deleted_text.proofs.pages.says.Goals as goal

pub returns-then-not-has_run_count : goal.returns-then-not-has_run_count
returns-then-not-has_run_count c = λ none counted. absurd (cc (c.if-not-has_run_count.ensures.1 counted))

pub answers_deleted-requires : goal.answers_deleted-requires
answers_deleted-requires c =
    run_in_page c.args.page.now c.loop-run.run c.answer_of.result c.requires c.answer_of.ensures

pub loop-run-preserved : goal.loop-run-preserved
loop-run-preserved c = λ run from to low list. elim (cases_lt run c.loop-run.run) [
  | inl before ↦ c.loop-run.invariant run from to before list
  | inr past ↦
      let same : run ≡ c.loop-run.run = omega (arith, low, past) in
      run_silent c.args.page.now c.loop-run.run c.answer_of.result c.answer_of.ensures
      (λ is. absurd (cc (c.if-answers_deleted.ensures.1 is))) from to
      (subst (λ n. IsListOf Chpx c.args.page.now n from to) same list)
]

pub returns : goal.returns
returns c = λ none counted run from to low.
    c.loop-run.invariant run from to (omega (arith, low, c.loop-run-test.false))
