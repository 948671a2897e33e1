use Rattle.std.specs.Prelude.{slice_index}
use Rattle.std.proofs.Common.{◌≡◌, ◌∙◌, sym, ap, subst, refl, inl, inr, arith}
use Rattle.std.proofs.lemmas.Bool.{cases_lt}
use Rattle.std.proofs.lemmas.Grind.{get_or_default_zero}
use Rattle.fkp_pages.specs.Bin.{page_at}
use Rattle.deleted_text.specs.Places.{SaysNothing}
use Rattle.deleted_text.proofs.CodeLemmas.{silent_places}
use Rattle.deleted_text.proofs.pages.is_silent.Goals as goal

pub loop-number-preserved : goal.loop-number-preserved
loop-number-preserved c = λ page low mark. elim (cases_lt page c.loop-number.number) [
  | inl before ↦ c.loop-number.invariant page before mark
  | inr past ↦
      let marks = c.in_ok-marks.marks.items in
      let same : page ≡ c.loop-number.number = omega (arith, low, past) in
      let own : slice_index marks c.loop-number.number ≡ 1 = sym (ap (slice_index marks) same) ∙ mark in
      let zero = get_or_default_zero marks c.loop-number.number c.index.result.now
      (omega (arith, c.loop-number-test.true, c.in_ok-marks.ensures.len)) in
      subst (λ n. SaysNothing (page_at c.args.wd.now n)) (sym same)
      (c.if-says_if_named.ensures refl (omega (arith, c.index.ensures, zero, own)))
]

pub returns : goal.returns
returns c = λ t.
    silent_places c.args.wd.now c.args.bin.now c.in_ok-marks.marks.items c.loop-number.number
    (omega (arith, c.loop-number-test.false)) (λ page low. c.in_ok-marks.ensures.marks page (omega (arith, low)))
    c.loop-number.invariant
