use Rattle.std.proofs.Common.{◌≡◌, ◌+◌, ◌-◌, ℕ, inl, inr, refl, subst, arith}
use Rattle.std.proofs.lemmas.Bool.{cases_lt}
use Rattle.std.specs.Prelude.{slice_index}
use Rattle.doc_view.specs.Blocks.{IsItself}
use Rattle.doc_view.proofs.glyph.parts_end.Goals as goal

pub loop-end-preserved : goal.loop-end-preserved
loop-end-preserved c =
    let old = c.loop-end in
    let more = c.loop-end-test.true in
    let ahead = old.invariant.ahead in
    let part = c.if-not-are_characters.ensures refl in
    record {
      ahead = omega (arith, ahead);
      within = omega (arith, more, old.invariant.within);
      units = λ k low below. elim (cases_lt k old.end) [
        | inl before ↦ old.invariant.units k low before
        | inr behind ↦
            let there : old.end + (k - old.end) ≡ k = omega (arith, behind) in
            subst (λ (n : ℕ). IsItself (slice_index c.args.units.now n)) there
            (part (k - old.end) (omega (arith, behind, below)))
      ];
    }
