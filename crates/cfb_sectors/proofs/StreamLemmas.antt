-- The sectors of a chain, joined and cut.
use Rattle.std.proofs.Common.{◌≡◌, ℕ, zero, suc, ◌+◌, ◌-◌, ◌*◌, ◌<◌, ◌≤◌, min, List, [], ◌∷◌, ◌++◌, length, take, drop}
use Rattle.std.proofs.Common.{slice_index, inl, inr, refl, sym, ◌∙◌, ap, subst, arith, length-append, length-take}
use Rattle.std.proofs.Common.{length-drop}
use Rattle.std.proofs.lemmas.Bool.{cases_lt}
use Rattle.std.proofs.lemmas.List.{take_more, take_all, take-take, take-append-le, append-nil}
use Rattle.std.proofs.lemmas.Grind.{flat_map-append}
use Rattle.std.proofs.Math.Seq.{take-append-add}
use Rattle.std.specs.Prelude.{slice_range}
use Rattle.std.specs.List.{flat_map}
use Rattle.cfb_sectors.specs.Header.{sector_bytes}

-- the front of two lists in a row
pub take-append : (n : ℕ) (xs ys : List ℕ) → take n (xs ++ ys) ≡ take n xs ++ take (n - length xs) ys
take-append n xs ys = elim (cases_lt n (length xs)) [
  | inl h ↦
      let e : n - length xs ≡ 0 = omega arith in
      take-append-le n xs ys (omega arith) ∙ rw (e, append-nil (take n xs)) refl
  | inr h ↦
      let e : n ≡ length xs + (n - length xs) = omega arith in
      ap (λ k. take k (xs ++ ys)) e
      ∙ (take-append-add xs ys (n - length xs) ∙ ap (λ zs. zs ++ take (n - length xs) ys) (sym (take_all n xs h)))
]

-- the front of a front
pub take-take_min : (m n : ℕ) (xs : List ℕ) → take m (take n xs) ≡ take (min m n) xs
take-take_min m n xs = elim (cases_lt n m) [
  | inl h ↦
      let e : min m n ≡ n = omega arith in
      take_all m (take n xs) (omega (arith, length-take {A = ℕ})) ∙ ap (λ k. take k xs) (sym e)
  | inr h ↦
      let e : min m n ≡ m = omega arith in
      take-take m n xs h ∙ ap (λ k. take k xs) (sym e)
]

-- so many sectors have so many bytes
pub length-joined : (f : ℕ → List ℕ) (unit : ℕ) (chain : List ℕ) (i : ℕ) → i ≤ length chain →
    ((k : ℕ) → k < i → length (f (slice_index chain k)) ≡ unit) → length (flat_map f (take i chain)) ≡ i * unit
length-joined f unit chain zero h each = let e : 0 ≡ 0 * unit = omega arith in e
length-joined f unit chain (suc i) h each =
    let e : i + 1 ≡ suc i = omega arith in
    let ih = length-joined f unit chain i (omega arith) (λ k low. each k (omega arith)) in
    let more = take_more chain i 0 (omega arith) in
    let here = each i (omega arith) in
    subst (λ k. length (flat_map f (take k chain)) ≡ k * unit) e
    (rw (
      more,
      flat_map-append f (take i chain) (slice_index chain i ∷ []),
      append-nil (f (slice_index chain i)),
      length-append,
      ih,
      here,
    ) (omega arith))

-- a sector that is in the file has all its bytes
pub length-sector : (base unit : ℕ) (bytes : List ℕ) (sector : ℕ) → base + sector * unit + unit ≤ length bytes →
    length (sector_bytes base unit bytes sector) ≡ unit
length-sector base unit bytes sector h = omega (arith, length-take {A = ℕ}, length-drop {A = ℕ})

-- one sector more, cut where the size ends
pub join_step : (base unit : ℕ) (bytes chain : List ℕ) (size i left : ℕ) (joined part : List ℕ) → i < length chain →
    ((k : ℕ) → k < length chain → base + slice_index chain k * unit + unit ≤ length bytes) →
    joined ≡ take size (flat_map (sector_bytes base unit bytes) (take i chain)) → left ≡ size - i * unit →
    part ≡ slice_range bytes (base + slice_index chain i * unit) (base + slice_index chain i * unit + min left unit) →
    joined ++ part ≡ take size (flat_map (sector_bytes base unit bytes) (take (i + 1) chain))
join_step base unit bytes chain size i left joined part h inside j l p =
    let f : ℕ → List ℕ = λ s. sector_bytes base unit bytes s in
    let front = flat_map f (take i chain) in
    let from = base + slice_index chain i * unit in
    let len : length (flat_map f (take i chain)) ≡ i * unit = length-joined f unit chain i (omega arith)
    (λ k low. length-sector base unit bytes (slice_index chain k) (inside k (omega arith))) in
    let more = take_more chain i 0 h in
    let cut : take (size - i * unit) (f (slice_index chain i)) ≡ part =
    (let width : from + unit - from ≡ unit = omega arith in
    let part_width : from + min left unit - from ≡ min (size - i * unit) unit = omega arith in
    ap (λ k. take (size - i * unit) (take k (drop from bytes))) width
    ∙ (take-take_min (size - i * unit) unit (drop from bytes)
    ∙ (ap (λ k. take k (drop from bytes)) (sym part_width) ∙ sym p))) in
    sym
    (rw (
      more,
      flat_map-append f (take i chain) (slice_index chain i ∷ []),
      append-nil (f (slice_index chain i)),
      take-append size (flat_map f (take i chain)) (f (slice_index chain i)),
      len,
      cut,
    ) (ap (λ zs. zs ++ part) (sym j)))

-- all sectors of a list, in a row
pub length_all : (f : ℕ → List ℕ) (unit : ℕ) (chain : List ℕ) →
    ((k : ℕ) → k < length chain → length (f (slice_index chain k)) ≡ unit) →
    length (flat_map f chain) ≡ length chain * unit
length_all f unit chain each =
    ap (λ xs. length (flat_map f xs)) (sym (take_all (length chain) chain (omega arith))) ∙ length-joined f unit chain
    (length chain) (omega arith) each

-- so many bytes the sectors give, cut to the size
pub length-cut : (base unit : ℕ) (bytes chain joined : List ℕ) (size : ℕ) →
    ((i : ℕ) → i < length chain → base + slice_index chain i * unit + unit ≤ length bytes) →
    joined ≡ take size (flat_map (sector_bytes base unit bytes) chain) → length joined ≡ min size (length chain * unit)
length-cut base unit bytes chain joined size inside e =
    let all = length_all (sector_bytes base unit bytes) unit chain
    (λ k h. length-sector base unit bytes (slice_index chain k) (inside k h)) in
    ap length e ∙ (length-take size (flat_map (sector_bytes base unit bytes) chain) ∙ ap (λ n. min size n) all)
