use Rattle.std.proofs.Common.{◌≡◌, inl, inr, refl, ap, ◌∙◌, subst, arith}
use Rattle.std.proofs.lemmas.Bool.{cases_lt}
use Rattle.fkp_pages.specs.Fkp.{run_entry_place}
use Rattle.page_copies.specs.Places.{IsApartFrom}
use Rattle.page_copies.proofs.places.is_clear.Goals as goal

pub returns-then-not-is_apart_from : goal.returns-then-not-is_apart_from
returns-then-not-is_apart_from c = (
  λ t. absurd (cc t),
  λ clear. c.if-not-is_apart_from.ensures.1
      (clear.apart c.loop-other.other (omega (arith, c.loop-other-test.true, c.run_count-count.ensures))),
)

pub loop-other-preserved : goal.loop-other-preserved
loop-other-preserved c = λ run h. elim (cases_lt run c.loop-other.other) [
  | inl lo ↦ c.loop-other.invariant run lo
  | inr hi ↦
      let same : c.loop-other.other ≡ run = omega arith in
      subst (IsApartFrom c.args.kind c.args.page.now c.args.place) same (c.if-not-is_apart_from.ensures.0 refl)
]

pub returns : goal.returns
returns c =
    let end = c.entry_at.ensures.place ∙ ap (run_entry_place c.args.kind c.args.page.now) c.run_count-count.ensures in (
      λ t. record {
        behind = omega (arith, end, c.if-place-entry_at.false);
        apart = λ run low. c.loop-other.invariant run
            (omega (arith, c.loop-other-test.false, c.run_count-count.ensures));
      },
      λ clear. refl,
    )
