-- Distinct sectors of several owners, gathered.
use Rattle.std.proofs.Common.{◌≡◌, ◌≢◌, inl, inr, ◌⊎◌, ℕ, zero, suc, ◌+◌, ◌-◌, ◌<◌, ◌≤◌, List, [], ◌∷◌, ◌++◌, length}
use Rattle.std.proofs.Common.{slice_index, refl, sym, ap, ◌∙◌, arith, length-append}
use Rattle.std.proofs.lemmas.Bool.{cases_lt}
use Rattle.std.proofs.lemmas.List.{get_or_append_left, get_or-append_right}
use Rattle.cfb_sectors.specs.SectorChain.{HasSector}
use Rattle.doc_bits.proofs.Public.{length_below}
use Rattle.cfb_layout.specs.Sectors.{chain_start}
use Rattle.cfb_layout.proofs.SectorLemmas.{start_next}

-- distinct sectors below a number
pub record IsRun (count : ℕ) (xs : List ℕ) : Type 0 where
  pub within : (i : ℕ) → i < length xs → slice_index xs i < count
  pub distinct : (i j : ℕ) → i < j → j < length xs → slice_index xs i ≢ slice_index xs j

pub run_short : (count : ℕ) (xs : List ℕ) → IsRun count xs → length xs ≤ count
run_short count xs run = length_below xs count run.within run.distinct

pub has_either : (xs ys : List ℕ) (s : ℕ) → HasSector (xs ++ ys) s → HasSector xs s ⊎ HasSector ys s
has_either xs ys s h =
    let all = length-append xs ys in
    let inside = h.inside in
    elim (cases_lt h.index (length xs)) [
      | inl low ↦ inl (record {
        index = h.index;
        inside = low;
        here = sym (get_or_append_left xs ys 0 h.index low) ∙
            h.here;
      })
      | inr high ↦ inr (record {
        index = h.index - length xs;
        inside = omega arith;
        here = sym (get_or-append_right xs
            ys (length xs) h.index 0 refl high) ∙ h.here;
      })
    ]

-- lists that have no sector in common, joined
pub run_join : (count : ℕ) (xs ys : List ℕ) → IsRun count xs → IsRun count ys → ((s : ℕ) → HasSector xs s →
    ¬ HasSector ys s) → IsRun count (xs ++ ys)
run_join count xs ys a b apart =
    let all = length-append xs ys in
    let left : (i : ℕ) → i < length xs → slice_index (xs ++ ys) i ≡ slice_index xs i = λ i h. get_or_append_left xs ys
    0 i h in
    let right : (i : ℕ) → length xs ≤ i → slice_index (xs ++ ys) i ≡ slice_index ys (i - length xs) = λ i h.
    get_or-append_right xs ys (length xs) i 0 refl h in
    record {
      within = λ i h. elim (cases_lt i (length xs)) [
        | inl low ↦ let e = left i low in let w = a.within i low in omega arith
        | inr high ↦ let e = right i high in let w = b.within (i - length xs) (omega arith) in omega arith
      ];
      distinct = λ i j less h e. elim (cases_lt j (length xs)) [
        | inl low ↦ a.distinct i j less low (sym (left i (omega arith)) ∙ (e ∙ left j low))
        | inr high ↦ elim (cases_lt i (length xs)) [
          | inl low ↦ apart (slice_index xs i)
              (record { index = i; inside = low; here = refl })
              (record { index = j - length xs; inside = omega arith; here = sym (right j high) ∙ (sym e ∙ left i low) })
          | inr both ↦ b.distinct (i - length xs) (j - length xs) (omega arith) (omega arith) (sym (right i both) ∙
              (e ∙ right j high))
        ]
      ];
    }

run_zero_within : (count : ℕ) (xs : List ℕ) → IsRun count xs → 0 < count → (i : ℕ) → i < length (0 ∷ xs) →
    slice_index (0 ∷ xs) i < count
run_zero_within count xs run some zero h = some
run_zero_within count xs run some (suc i) h = run.within i (omega arith)

run_zero_distinct : (count : ℕ) (xs : List ℕ) → IsRun count xs → ((i : ℕ) → i < length xs → 0 < slice_index xs i) →
    (i j : ℕ) → i < j → j < length (0 ∷ xs) → slice_index (0 ∷ xs) i ≢ slice_index (0 ∷ xs) j
run_zero_distinct count xs run above i zero less h = absurd (omega arith)
run_zero_distinct count xs run above zero (suc j) less h = λ e. let more = above j (omega arith) in omega arith
run_zero_distinct count xs run above (suc i) (suc j) less h = run.distinct i j (omega arith) (omega arith)

-- and 0, where they are above it
pub run_zero : (count : ℕ) (xs : List ℕ) → IsRun count xs → 0 < count → ((i : ℕ) → i < length xs → 0 < slice_index xs
    i) → IsRun count (0 ∷ xs)
run_zero count xs run some above = record {
  within = run_zero_within count xs run some;
  distinct = run_zero_distinct
      count xs run above;
}

-- so many sectors that somebody has
pub record IsHeld (valid : ℕ) (P : ℕ → Type 0) (count : ℕ) : Type 0 where
  pub sectors : List ℕ
  pub run : IsRun valid sectors
  pub enough : count ≤ length sectors
  pub owned : (s : ℕ) → HasSector sectors s → P s

pub no_sectors : (valid : ℕ) (P : ℕ → Type 0) (count : ℕ) → count ≡ 0 → IsHeld valid P count
no_sectors valid P count none = record {
  sectors = [];
  run = record { within = λ i h. absurd (omega arith); distinct = λ i j less h. absurd (omega arith) };
  enough = omega arith;
  owned = λ s h. absurd (let inside = h.inside in omega arith);
}

-- the sectors of the first owners
pub record IsGathered (valid : ℕ) (P : ℕ → ℕ → Type 0) (counts : List ℕ) (m : ℕ) : Type 0 where
  pub sectors : List ℕ
  pub run : IsRun valid sectors
  pub enough : chain_start counts m ≤ length sectors
  pub owned : (s : ℕ) → HasSector sectors s → (i : ℕ) × ((i < m) × P i s)

pub gather : (valid : ℕ) (P : ℕ → ℕ → Type 0) (counts : List ℕ) → ((i j s : ℕ) → P i s → P j s → i ≡ j) →
    ((i : ℕ) → i < length counts → IsHeld valid (P i) (slice_index counts i)) → (m : ℕ) → m ≤ length counts →
    IsGathered valid P counts m
gather valid P counts one held zero low = record {
  sectors = [];
  run = record { within = λ i h. absurd (omega arith); distinct = λ i j less h. absurd (omega arith) };
  enough = omega arith;
  owned = λ s h. absurd (let inside = h.inside in omega arith);
}
gather valid P counts one held (suc m) low =
    let g = gather valid P counts one held m (omega arith) in
    let h = held m (omega arith) in
    let all = length-append g.sectors h.sectors in
    let next = start_next counts m (omega arith) in
    let same : m + 1 ≡ suc m = omega arith in
    let start = ap (λ k. chain_start counts k) same in
    let first = g.enough in
    let more = h.enough in
    record {
      sectors = g.sectors ++ h.sectors;
      run = run_join valid g.sectors h.sectors g.run h.run (λ s a b.
          let w = g.owned s a in
          let e = one w.0 m s w.1.1 (h.owned s b) in
          let less = w.1.0 in omega arith);
      enough = omega arith;
      owned = λ s has. elim (has_either g.sectors h.sectors s has) [
        | inl a ↦ let w = g.owned s a in let less = w.1.0 in (w.0, (omega arith, w.1.1))
        | inr b ↦ (m, (omega arith, h.owned s b))
      ];
    }
