-- Chains of sectors that are in a row.
use Rattle.std.proofs.Common.{◌≡◌, inl, inr, ℕ, zero, suc, ◌+◌, ◌-◌, ◌^◌, ◌<◌, ◌≤◌, List, [], ◌∷◌, length}
use Rattle.std.proofs.Common.{slice_index, take, sum, refl, ap, ◌∙◌, arith, length-append, length-take}
use Rattle.std.specs.List.{range_with_len}
use Rattle.std.proofs.lemmas.Bool.{cases_lt, cases_order}
use Rattle.std.proofs.lemmas.List.{get_or_append_left, get_or-append_right, get_or_push, get_or_past, length_push}
use Rattle.std.proofs.lemmas.List.{take-take, get_or-take}
use Rattle.std.proofs.lemmas.List.FromFn.{length-range_with_len, get_or-range_with_len}
use Rattle.std.proofs.lemmas.List.Sums.{sum_by-cons, sum_by_more, sum_by_more_le, sum_by-take-le}
use Rattle.cfb_sectors.specs.SectorChain.{IsSectorChain, end_of_chain, last_of}
use Rattle.cfb_layout.specs.Sectors.{chain_entries, chains_from, chain_start}

pub length-chain_entries : (start count : ℕ) → length (chain_entries start count) ≡ count
length-chain_entries start zero = refl
length-chain_entries start (suc more) =
    omega (arith, length_push (range_with_len (start + 1) more) end_of_chain, length-range_with_len (start + 1) more)

-- each sector but the last names the next
pub chain_next : (start count j : ℕ) → j + 1 < count → slice_index (chain_entries start count) j ≡ start + j + 1
chain_next start zero j h = absurd (omega arith)
chain_next start (suc more) j h =
    let len = length-range_with_len (start + 1) more in
    let here = get_or_append_left (range_with_len (start + 1) more) (end_of_chain ∷ []) 0 j (omega arith) in
    let value = get_or-range_with_len (start + 1) more j 0 (omega arith) in
    omega arith

-- the last ends the chain
pub chain_last : (start count j : ℕ) → j + 1 ≡ count → slice_index (chain_entries start count) j ≡ end_of_chain
chain_last start zero j h = absurd (omega arith)
chain_last start (suc more) j h =
    let len = length-range_with_len (start + 1) more in
    get_or_push (range_with_len (start + 1) more) end_of_chain 0 j (omega arith)

pub length-chains_from : (start : ℕ) (counts : List ℕ) → length (chains_from start counts) ≡ sum counts
unfolding chains_from
length-chains_from start [] = refl
length-chains_from start (count ∷ counts) =
    let a = length-append (chain_entries start count) (chains_from (start + count) counts) in
    let b = length-chain_entries start count in
    let c = length-chains_from (start + count) counts in
    let d = sum_by-cons (λ (x : ℕ). x) count counts in
    omega arith

-- the entry of the j-th sector of the i-th chain
pub chains_at : (start : ℕ) (counts : List ℕ) (i j at from : ℕ) → i < length counts → j < slice_index counts i →
    at ≡ chain_start counts i + j → from ≡ start + chain_start counts i → slice_index (chains_from start counts) at ≡
    slice_index (chain_entries from (slice_index counts i)) j
unfolding chains_from
chains_at start [] i j at from h k e f = absurd (omega arith)
chains_at start (count ∷ counts) zero j at from h k e f =
    let len = length-chain_entries start count in
    let place : at ≡ j = omega arith in
    let first : start ≡ from = omega arith in
    get_or_append_left (chain_entries start count) (chains_from (start + count) counts) 0 at (omega arith)
    ∙ (ap (λ k. slice_index (chain_entries start count) k) place ∙ ap (λ s. slice_index (chain_entries s count) j)
    first)
chains_at start (count ∷ counts) (suc i) j at from h k e f =
    let len = length-chain_entries start count in
    let all = sum_by-cons (λ (x : ℕ). x) count (take i counts) in
    get_or-append_right (chain_entries start count) (chains_from (start + count) counts) count at 0 len (omega arith)
    ∙ chains_at (start + count) counts i j (at - count) from (omega arith) k (omega arith) (omega arith)

-- a chain's sectors are within all sectors
pub start_room : (counts : List ℕ) (i : ℕ) → i < length counts → chain_start counts i + slice_index counts i ≤ sum
    counts
start_room counts i h = sum_by_more_le (λ (x : ℕ). x) counts i 0 h

pub start_next : (counts : List ℕ) (i : ℕ) → i < length counts → chain_start counts (i + 1) ≡ chain_start counts i +
    slice_index counts i
start_next counts i h = sum_by_more (λ (x : ℕ). x) counts i 0 h

pub start_below : (counts : List ℕ) (i : ℕ) → chain_start counts i ≤ sum counts
start_below counts i = sum_by-take-le (λ (x : ℕ). x) counts i

-- a later chain starts behind an earlier one
pub start_order : (counts : List ℕ) (i j : ℕ) → i < j → j ≤ length counts → chain_start counts i + slice_index counts i
    ≤
    chain_start counts j
start_order counts i j h k =
    let len = length-take j counts in
    let room = sum_by_more_le (λ (x : ℕ). x) (take j counts) i 0 (omega arith) in
    let front = ap (λ xs. sum xs) (take-take i j counts (omega arith)) in
    let here = get_or-take j counts i 0 h in
    omega arith

-- the sector is one of the i-th chain's
pub record IsIn (counts : List ℕ) (i s : ℕ) : Type 0 where
  pub from : chain_start counts i ≤ s
  pub below : s < chain_start counts i + slice_index counts i

-- no sector is in two chains
pub one_chain : (counts : List ℕ) (i j s : ℕ) → i < length counts → j < length counts → IsIn counts i s →
    IsIn counts j s → i ≡ j
one_chain counts i j s h k a b = elim (cases_order i j) [
  | inl same ↦ same
  | inr apart ↦ elim apart [
    | inl less ↦ let o = start_order counts i j less (omega arith) in let x = a.below in let y = b.from in
        absurd (omega arith)
    | inr more ↦ let o = start_order counts j i more (omega arith) in let x = b.below in let y = a.from in
        absurd (omega arith)
  ]
]

-- entries are 32-bit numbers
pub chain_below : (start count j : ℕ) → start + count < 2 ^ 32 → slice_index (chain_entries start count) j < 2 ^ 32
chain_below start count j h = elim (cases_lt j count) [
  | inr past ↦
      let e = get_or_past (chain_entries start count) j 0 (let len = length-chain_entries start count in
      omega arith) in omega arith
  | inl low ↦ elim (cases_lt (j + 1) count) [
    | inl next ↦ let e = chain_next start count j next in omega arith
    | inr last ↦ let e = chain_last start count j (omega arith) in omega arith
  ]
]

pub chains_below : (start : ℕ) (counts : List ℕ) (at : ℕ) → start + sum counts < 2 ^ 32 →
    slice_index (chains_from start counts) at < 2 ^ 32
unfolding chains_from
chains_below start [] at h = omega arith
chains_below start (count ∷ counts) at h =
    let len = length-chain_entries start count in
    let all = sum_by-cons (λ (x : ℕ). x) count counts in
    elim (cases_lt at count) [
      | inl low ↦
          let e = get_or_append_left (chain_entries start count) (chains_from (start + count) counts) 0 at
          (omega arith) in
          let b = chain_below start count at (omega arith) in
          omega arith
      | inr high ↦
          let e = get_or-append_right (chain_entries start count) (chains_from (start + count) counts) count at 0 len
          high in
          let b = chains_below (start + count) counts (at - count) (omega arith) in
          omega arith
    ]

-- sectors in a row are a chain where each entry names the next
pub run_chain : (entry : ℕ → ℕ) (valid start count : ℕ) → 0 < count → start + count ≤ valid → ((j s : ℕ) →
    j + 1 < count → s ≡ start + j → entry s ≡ start + j + 1) → ((s : ℕ) → s + 1 ≡ start + count →
    entry s ≡ end_of_chain) → IsSectorChain entry valid start (range_with_len start count)
run_chain entry valid start count some room next last =
    let len = length-range_with_len start count in
    let at : (i : ℕ) → i < count → slice_index (range_with_len start count) i ≡ start + i = λ i h.
    get_or-range_with_len start count i 0 h in
    record {
      path = record {
        some = omega arith;
        first = let e = at 0 some in omega arith;
        within = λ i h. let e = at i (omega arith) in omega arith;
        distinct = λ i j less h same. let a = at i (omega arith) in let b = at j (omega arith) in omega arith;
        links = λ i h.
            let a = at i (omega arith) in
            let b = at (i + 1) (omega arith) in
            let n = next i (slice_index (range_with_len start count) i) (omega arith) a in
            omega arith;
      };
      ends = last (last_of (range_with_len start count)) (let a = at (length (range_with_len start count) - 1)
          (omega arith) in omega arith);
    }

-- each of the chains that are one after another is a chain of the table
pub chains_chain : (entry : ℕ → ℕ) (valid base start : ℕ) (counts : List ℕ) (i : ℕ) → ((s t : ℕ) → s < sum counts →
    t ≡ base + s → entry t ≡ slice_index (chains_from base counts) s) → base + sum counts ≤ valid →
    i < length counts → 0 < slice_index counts i → start ≡ base + chain_start counts i → IsSectorChain entry valid start
    (range_with_len start (slice_index counts i))
chains_chain entry valid base start counts i all room h some from =
    let inside = start_room counts i h in
    let count = slice_index counts i in
    run_chain entry valid start count some (omega arith)
    (λ j s less here.
    all (chain_start counts i + j) s (omega arith) (omega arith)
    ∙ (chains_at base counts i j (chain_start counts i + j) start h (omega arith) refl from ∙ chain_next start count j
    less))
    (λ s here.
    all (chain_start counts i + (count - 1)) s (omega arith) (omega arith)
    ∙ (chains_at base counts i (count - 1) (chain_start counts i + (count - 1)) start h (omega arith) refl from ∙
    chain_last start count (count - 1) (omega arith)))
