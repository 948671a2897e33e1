-- CPs that ascend or never fall, said step by step, are in the order that a table of CPs has.
use Rattle.std.specs.Prelude.{⊤, slice_index}
use Rattle.std.proofs.Common.{◌≡◌, ◌∙◌, ap, ℕ, zero, suc, ◌+◌, ◌<◌, ◌≤◌, true, false, List, [], ◌∷◌, length, arith}
use Rattle.std.proofs.lemmas.Bool.{false≢true}
use Rattle.doc_parts.specs.declared.cps.CpOrder.TheVariants.{Ascend}
use Rattle.doc_parts.specs.Cps.{AreCpsInOrder}
use Rattle.doc_parts.specs.Stories.{cut_cps}

-- ---- CPs that ascend between two bounds

abbrev pub Rise : ℕ → ℕ → List ℕ → Type 0
Rise low high [] = ⊤
Rise low high (cp ∷ cps) = (low ≤ cp) × ((cp < high) × Rise (cp + 1) high cps)

pub rise_lower : (low lower high : ℕ) (cps : List ℕ) → lower ≤ low → Rise low high cps → Rise lower high cps
rise_lower low lower high [] below rise = tt
rise_lower low lower high (cp ∷ cps) below rise = let first = rise.0 in (omega arith, (rise.1.0, rise.1.1))

pub rise_within : (low high : ℕ) (cps : List ℕ) → Rise low high cps → (k : ℕ) → k < length cps →
    (low ≤ slice_index cps k) × (slice_index cps k < high)
rise_within low high [] rise k below = absurd (omega arith)
rise_within low high (cp ∷ cps) rise zero below = (rise.0, rise.1.0)
rise_within low high (cp ∷ cps) rise (suc k) below =
    let later = rise_within (cp + 1) high cps rise.1.1 k (omega arith) in
    let first = rise.0 in
    let above = later.0 in
    (omega arith, later.1)

pub rise_step : (low high : ℕ) (cps : List ℕ) → Rise low high cps → (j k : ℕ) → j + 1 ≡ k → k < length cps →
    slice_index cps j < slice_index cps k
rise_step low high [] rise j k next below = absurd (omega arith)
rise_step low high (cp ∷ cps) rise zero zero next below = absurd (omega arith)
rise_step low high (cp ∷ cps) rise zero (suc k) next below =
    let above = (rise_within (cp + 1) high cps rise.1.1 k (omega arith)).0 in omega arith
rise_step low high (cp ∷ cps) rise (suc j) zero next below = absurd (omega arith)
rise_step low high (cp ∷ cps) rise (suc j) (suc k) next below =
    rise_step (cp + 1) high cps rise.1.1 j k (omega arith) (omega arith)

pub rise_in_order : (len : ℕ) (cps : List ℕ) → Rise 0 len cps →
    AreCpsInOrder (record { order = Ascend; from_zero = false; story_len = len }) cps
rise_in_order len cps rise k below = record {
  begin = λ needed first. absurd (false≢true needed);
  after = λ j next. rise_step 0 len cps rise j k next below;
  within = (rise_within 0 len cps rise k below).1;
}

-- the same where the first one is 0
pub rise_from_zero : (len : ℕ) (cps : List ℕ) → Rise 0 len cps → slice_index cps 0 ≡ 0 →
    AreCpsInOrder (record { order = Ascend; from_zero = true; story_len = len }) cps
rise_from_zero len cps rise begins k below = record {
  begin = λ needed first. ap (slice_index cps) first ∙ begins;
  after = λ j next. rise_step 0 len cps rise j k next below;
  within = (rise_within 0 len cps rise k below).1;
}

-- ---- CPs that never fall

abbrev pub Climb : ℕ → ℕ → List ℕ → Type 0
Climb low high [] = ⊤
Climb low high (cp ∷ cps) = (low ≤ cp) × ((cp ≤ high) × Climb cp high cps)

pub climb_lower : (low lower high : ℕ) (cps : List ℕ) → lower ≤ low → Climb low high cps → Climb lower high cps
climb_lower low lower high [] below climb = tt
climb_lower low lower high (cp ∷ cps) below climb = let first = climb.0 in (omega arith, (climb.1.0, climb.1.1))

pub climb_within : (low high : ℕ) (cps : List ℕ) → Climb low high cps → (k : ℕ) → k < length cps →
    (low ≤ slice_index cps k) × (slice_index cps k ≤ high)
climb_within low high [] climb k below = absurd (omega arith)
climb_within low high (cp ∷ cps) climb zero below = (climb.0, climb.1.0)
climb_within low high (cp ∷ cps) climb (suc k) below =
    let later = climb_within cp high cps climb.1.1 k (omega arith) in
    let first = climb.0 in
    let above = later.0 in
    (omega arith, later.1)

pub climb_step : (low high : ℕ) (cps : List ℕ) → Climb low high cps → (j k : ℕ) → j + 1 ≡ k → k < length cps →
    slice_index cps j ≤ slice_index cps k
climb_step low high [] climb j k next below = absurd (omega arith)
climb_step low high (cp ∷ cps) climb zero zero next below = absurd (omega arith)
climb_step low high (cp ∷ cps) climb zero (suc k) next below =
    (climb_within cp high cps climb.1.1 k (omega arith)).0
climb_step low high (cp ∷ cps) climb (suc j) zero next below = absurd (omega arith)
climb_step low high (cp ∷ cps) climb (suc j) (suc k) next below =
    climb_step cp high cps climb.1.1 j k (omega arith) (omega arith)

pub climb_in_order : (len : ℕ) (cps : List ℕ) → Climb 0 len cps → slice_index cps 0 ≡ 0 → AreCpsInOrder (cut_cps len)
    cps
climb_in_order len cps climb begins k below = record {
  begin = λ needed first. ap (slice_index cps) first ∙ begins;
  after = λ j next. climb_step 0 len cps climb j k next below;
  within = (climb_within 0 len cps climb k below).1;
}
