-- The FAT's entries from the first added sector on.
use Rattle.std.proofs.Common.{◌≡◌, ◌≢◌, ◌⊎◌, inl, inr, ℕ, ◌+◌, ◌-◌, ◌<◌, ◌≤◌, List, [], ◌∷◌, slice_index, refl, sym}
use Rattle.std.proofs.Common.{◌∙◌}
use Rattle.std.proofs.Common.{arith}
use Rattle.std.proofs.lemmas.Bool.{cases_lt}
use Rattle.cfb_sectors.specs.SectorChain.{end_of_chain}
use Rattle.cfb_layout.specs.Sectors.{chains_from, chain_entries, chain_start}
use Rattle.cfb_layout.proofs.Public.{chains_at, chain_next, chain_last}
use Rattle.cfb_in_place.specs.Change.{Added, fresh_from, fat_from}
use Rattle.cfb_in_place.specs.Tables.{IsNewEntry}

-- the entry of a sector of one of the two chains
in_first : (added : Added) (s : ℕ) → added.from ≤ s → s < fresh_from added → slice_index (chains_from added.from
    (added.grown ∷ (added.fresh ∷ []))) (s - added.from) ≡ slice_index (chain_entries added.from added.grown)
    (s - added.from)
in_first added s low h =
    let counts : List ℕ = added.grown ∷ (added.fresh ∷ []) in
    let first : chain_start counts 0 ≡ 0 = refl in
    chains_at added.from counts 0 (s - added.from) (s - added.from) added.from (omega arith) (omega arith)
    (omega arith) (omega arith)

in_second : (added : Added) (s : ℕ) → fresh_from added ≤ s → s < fat_from added → slice_index (chains_from added.from
    (added.grown ∷ (added.fresh ∷ []))) (s - added.from) ≡ slice_index (chain_entries (fresh_from added) added.fresh)
    (s - fresh_from added)
in_second added s low h =
    let counts : List ℕ = added.grown ∷ (added.fresh ∷ []) in
    let second : chain_start counts 1 ≡ 0 + added.grown = refl in
    chains_at added.from counts 1 (s - fresh_from added) (s - added.from) (fresh_from added) (omega arith)
    (omega arith) (omega arith) (omega arith)

pub entry_last : (added : Added) (s : ℕ) → added.from ≤ s → s < fat_from added → (s + 1 ≡ fresh_from added) ⊎ (s + 1 ≡
    fat_from added) → IsNewEntry added s end_of_chain
entry_last added s low h ends = record {
  chained = λ below. elim (cases_lt s (fresh_from added)) [
    | inl first ↦
        let last : s - added.from + 1 ≡ added.grown = elim ends [
          | inl e ↦ omega arith
          | inr e ↦ omega arith
        ] in
        sym (in_first added s low first ∙ chain_last added.from added.grown (s - added.from) last)
    | inr second ↦
        let last : s - fresh_from added + 1 ≡ added.fresh = elim ends [
          | inl e ↦ omega arith
          | inr e ↦ omega arith
        ] in
        sym (in_second added s second h ∙ chain_last (fresh_from added) added.fresh (s - fresh_from added) last)
  ];
  mark = λ above below. absurd (omega arith);
  unused = λ above. absurd (omega arith);
}

pub entry_next : (added : Added) (s : ℕ) → added.from ≤ s → s < fat_from added → s + 1 ≢ fresh_from added → s + 1 ≢
    fat_from added → IsNewEntry added s (s + 1)
entry_next added s low h one another = record {
  chained = λ below. elim (cases_lt s (fresh_from added)) [
    | inl first ↦
        let next : s - added.from + 1 < added.grown = omega arith in
        let value : added.from + (s - added.from) + 1 ≡ s + 1 = omega arith in
        sym (in_first added s low first ∙ (chain_next added.from added.grown (s - added.from) next ∙ value))
    | inr second ↦
        let next : s - fresh_from added + 1 < added.fresh = omega arith in
        let value : fresh_from added + (s - fresh_from added) + 1 ≡ s + 1 = omega arith in
        sym (in_second added s second h ∙ (chain_next (fresh_from added) added.fresh (s - fresh_from added) next ∙
        value))
  ];
  mark = λ above below. absurd (omega arith);
  unused = λ above. absurd (omega arith);
}
