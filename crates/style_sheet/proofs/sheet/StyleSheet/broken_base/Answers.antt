use Rattle.std.proofs.Common.{inl, inr, refl, arith}
use Rattle.std.proofs.lemmas.Bool.{cases_lt}
use borrow.Author.Count.{below_more}
use Rattle.style_sheet.specs.Chain.{HasSoundBase}
use Rattle.style_sheet.proofs.OneChainLemmas.{sound_unbroken, sound_all, sound_nowhere, broken_there}
use Rattle.style_sheet.proofs.sheet.StyleSheet.broken_base.Goals as goal

pub returns-then-not-has_sound_base-clause-first : goal.returns-then-not-has_sound_base-clause-first
returns-then-not-has_sound_base-clause-first c =
    let here = c.if-not-has_sound_base.ensures.breaks.0 refl in
    record {
      broken = here;
      least = λ q broken. elim (cases_lt q c.loop-istd.istd) [
        | inl low ↦ absurd (sound_unbroken c.args.self.now q (c.loop-istd.invariant q low) broken)
        | inr high ↦ high
      ];
    }

pub returns-then-not-has_sound_base-clause-sound : goal.returns-then-not-has_sound_base-clause-sound
returns-then-not-has_sound_base-clause-sound c =
    let here = c.if-not-has_sound_base.ensures.breaks.0 refl in
    (λ e. absurd (cc), λ h. absurd (sound_nowhere c.args.self.now h c.loop-istd.istd here))

pub loop-istd-preserved : goal.loop-istd-preserved
loop-istd-preserved c = below_more (HasSoundBase c.args.self.now) c.loop-istd.istd c.loop-istd.invariant
    (c.if-not-has_sound_base.ensures.sound.0 refl)

pub returns-clause-first : goal.returns-clause-first
returns-clause-first c =
    let some = c.slots-istd-end.ensures.formed.some in
    let count = c.slots-istd-end.ensures.count in
    λ q broken.
    let low = broken_there c.args.self.now q (omega arith) broken in
    sound_unbroken c.args.self.now q (c.loop-istd.invariant q (omega arith)) broken

pub returns-clause-sound : goal.returns-clause-sound
returns-clause-sound c =
    let some = c.slots-istd-end.ensures.formed.some in
    let count = c.slots-istd-end.ensures.count in
    (λ e. sound_all c.args.self.now (omega arith) (λ k below. c.loop-istd.invariant k (omega arith)), λ h. refl)
