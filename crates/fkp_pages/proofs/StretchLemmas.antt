-- Stretches of places at which a page answers the same.
use Rattle.std.proofs.Common.{◌≡◌, ◌<◌, ◌≤◌, ◌+◌, ◌-◌, ℕ, max, min, List, Some, None, subst, arith, below_more}
use Rattle.fkp_pages.specs.declared.kind.PageKind.{PageKind}
use Rattle.fkp_pages.specs.declared.kind.RunAnswer.{RunAnswer}
use Rattle.fkp_pages.specs.declared.kind.RunAnswer.TheVariants.{Found, Empty, NoRun, BadCount, Leaves}
use Rattle.fkp_pages.specs.Fkp.{page_run_count, page_fc, HasRunCount, HoldsFc, IsFirstRun, IsAnswerOf}
use Rattle.fkp_pages.specs.Fkp.{HasRunAnswer}
use Rattle.fkp_pages.specs.Stretch.{HasStretch, IsFoundRun}
use Rattle.fkp_pages.specs.declared.reading.Stretch.{Stretch}
use Rattle.fkp_pages.proofs.PropertyLemmas.{run_answer_one}

-- where the page answers so at each place, the place among them, they are a stretch
pub has_stretch : (kind : PageKind) (page : List ℕ) (fc : ℕ) (stretch : Stretch) → stretch.first ≤ fc →
    fc ≤ stretch.last → ((other : ℕ) → stretch.first ≤ other → other ≤ stretch.last → HasRunAnswer kind page other
    stretch.answer) → HasStretch kind page fc stretch
has_stretch kind page fc stretch from to answers = record {
  around = record {
    from = from;
    to = to;
    same = λ answer other has a b. subst (λ x. HasRunAnswer kind page other x) (run_answer_one kind page fc
        stretch.answer answer (answers fc from to) has) (answers other a b);
  };
  answers = answers;
}

-- a page answers at a place what its first run answers
pub run_answers : (kind : PageKind) (page : List ℕ) (fc run : ℕ) (answer : RunAnswer) → HasRunCount kind page →
    IsFirstRun page fc run → IsAnswerOf kind page run answer → HasRunAnswer kind page fc answer
run_answers kind page fc run (Found from to) counted first answers = (
  counted,
  record {
    run = run;
    first = first;
    answers = answers;
  },
)
run_answers kind page fc run Empty counted first answers = (
  counted,
  record {
    run = run;
    first = first;
    answers = answers;
  },
)
run_answers kind page fc run NoRun counted first answers = absurd answers
run_answers kind page fc run BadCount counted first answers = absurd answers
run_answers kind page fc run (Leaves entry) counted first answers = (
  counted,
  record {
    run = run;
    first = first;
    answers = answers;
  },
)

-- how far a search for the first run has come: none of the runs so far holds a place of the gap, or one from the
-- least on
pub record HasPassedRuns (page : List ℕ) (fc run first last least : ℕ) : Type 0 where
  pub from : first ≤ fc
  pub to : fc ≤ last
  pub outside : (passed other : ℕ) → passed < run → first ≤ other → other ≤ last → ¬ (HoldsFc page passed other)
  pub before : (passed other : ℕ) → passed < run → least ≤ other → ¬ (HoldsFc page passed other)

-- a run more
pub one_passed : (page : List ℕ) (fc run first last least first' last' least' : ℕ) → HasPassedRuns page fc run first
    last least →
    (first' ≤ fc) × (fc ≤ last') → (first ≤ first') × (last' ≤ last) →
    ((other : ℕ) → first' ≤ other → other ≤ last' → page_fc page run ≤ other → page_fc page (run + 1) ≤ other) →
    (least ≤ least') × (page_fc page (run + 1) ≤ least') →
    HasPassedRuns page fc (run + 1) first' last' least'
one_passed page fc run first last least first' last' least' passed around within outside after =
    let low = within.0 in
    let high = within.1 in
    let more = after.0 in
    let end = after.1 in
    record {
      from = around.0;
      to = around.1;
      outside = λ k other below a b holds. below_more (λ j. ¬ (HoldsFc page j other)) run
          (λ j l. passed.outside j other l (omega arith) (omega arith))
          (λ h. let from = h.from in let to = h.to in let there = outside other a b from in absurd (omega arith)) k
          below holds;
      before = λ k other below a holds. below_more (λ j. ¬ (HoldsFc page j other)) run
          (λ j l. passed.before j other l (omega arith))
          (λ h. let to = h.to in absurd (omega arith)) k below holds;
    }

-- the run that holds the place is the first, and at the places of the gap that it holds too
pub found_here : (page : List ℕ) (fc run first last least begin end : ℕ) → HasPassedRuns page fc run first last
    least → run < page_run_count page →
    begin ≡ page_fc page run → end ≡ page_fc page (run + 1) → begin ≤ fc → fc < end →
    IsFoundRun page fc (record {
      run = Some run;
      first = max first begin;
      last = min last (end - 1);
      next = record { run = run + 1; least = max least end };
    })
found_here page fc run first last least begin end passed within b e low high =
    let from = passed.from in
    let to = passed.to in
    record {
      from = omega arith;
      to = omega arith;
      each = λ other a c. record {
        below = within;
        holds = record { from = omega arith; to = omega arith };
        first = λ k below. passed.outside k other below (omega arith) (omega arith);
      };
      next = record {
        within = omega arith;
        passed = λ k other below a. below_more (λ j. ¬ (HoldsFc page j other)) run
            (λ j l. passed.before j other l (omega arith))
            (λ h. let end_of = h.to in absurd (omega arith)) k below;
      };
    }

-- no run of the page holds the place, or one of the gap
pub none_here : (page : List ℕ) (fc run first last least : ℕ) → HasPassedRuns page fc run first last least →
    page_run_count page ≤ run →
    IsFoundRun page fc (record {
      run = None;
      first = first;
      last = last;
      next = record {
        run = page_run_count page;
        least = least;
      };
    })
none_here page fc run first last least passed all = record {
  from = passed.from;
  to = passed.to;
  each = λ other a c k below. passed.outside k other (omega arith) a c;
  next = record { within = omega arith; passed = λ k other below a. passed.before k other (omega arith) a };
}
