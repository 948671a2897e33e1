-- Reading an STSH: where slots and faults are.
use Rattle.std.proofs.Common.{◌≡◌, inl, inr, ℕ, zero, suc, ◌+◌, ◌-◌, ◌<◌, ◌≤◌, List, [], ◌∷◌, ◌++◌, Option}
use Rattle.std.proofs.Common.{None, length, drop, slice_index_or, refl, sym, ◌∙◌, ap, subst, arith, length-drop}
use Rattle.std.proofs.Common.{length-append, length-take}
use Rattle.std.proofs.lemmas.List.{get_or_past, get_or_append_left}
use Rattle.std.proofs.Math.Seq.{get_or-append_seam}
use borrow.Author.Count.{below_more}
use Rattle.doc_bits.specs.Number.{u16_at, number_at, number_bytes}
use Rattle.doc_bits.proofs.Public.{length-number_bytes}
use Rattle.sprm_table.specs.Sprm.{HasSprmFaultAt, spelling}
use Rattle.sprm_table.specs.Operands.{operand_bytes, size_of}
use Rattle.style_sheet.specs.declared.styles.Style.{Style}
use Rattle.style_sheet.specs.Counted.{even_up, counted_end, counted_place, counted_bytes, IsCountedPart}
use Rattle.style_sheet.specs.StyleDefinition.{upx_place, IsStd, HasAcceptedLists}
use Rattle.style_sheet.specs.Stsh.{slot_place, HasUpxFault, IsWrongSlot, SpellsSlot}

-- later counts are later
pub place_next : (bytes : List ℕ) (start k : ℕ) → counted_place bytes start k ≤ counted_place bytes start (suc k)
place_next bytes start k = omega arith

pub place_rises : (bytes : List ℕ) (start j d : ℕ) → counted_place bytes start j ≤ counted_place bytes start (d + j)
place_rises bytes start j zero = let e : 0 + j ≡ j = omega arith in rw e (omega arith)
place_rises bytes start j (suc d) =
    let e : suc d + j ≡ suc (d + j) = omega arith in
    let before = place_rises bytes start j d in
    let next = place_next bytes start (d + j) in
    rw e (omega arith)

pub wrong_rises : (part : List ℕ) (at j k a b : ℕ) → j < k → IsWrongSlot part at j a → IsWrongSlot part at k b → a ≤ b
wrong_rises part at j k a b less one other =
    let e : k - j + j ≡ k = omega arith in
    let first = one.here in
    let second = other.here in
    let rises : slot_place part j ≤ slot_place part k = subst (λ i. slot_place part j ≤ slot_place part i) e
    (place_rises part _ j (k - j)) in
    omega arith

-- the bytes of one that is within are as many as its count says
pub length-counted_bytes : (bytes : List ℕ) (at : ℕ) → IsCountedPart bytes at → length (counted_bytes bytes at) ≡ u16_at
    bytes at
length-counted_bytes bytes at h =
    let cut = length-take (counted_end bytes at - (at + 2)) (drop (at + 2) bytes) in
    let rest = length-drop (at + 2) bytes in
    omega arith

-- a fault has a code
pub fault_within : (bytes : List ℕ) (groups at : ℕ) → HasSprmFaultAt bytes groups at → at + 2 ≤ length bytes
fault_within bytes groups at h =
    let rest = length-drop at bytes in
    elim h [
      | inl s ↦ let word = s.here.word in omega arith
      | inr r ↦
          let prl = r.here.prl in
          let len = ap length r.here.spelt ∙ length-append (spelling prl) r.here.more in
          let code = length-append (number_bytes 2 prl.0) (operand_bytes (size_of prl.0) prl.1) in
          let two = length-number_bytes 2 prl.0 in
          omega arith
    ]

-- a fault of a list of properties is within the STD
pub list_fault_within : (std : List ℕ) (base offset : ℕ) → IsStd std base → HasUpxFault std base offset →
    offset + 2 ≤ length std
list_fault_within std base offset h fault = elim fault [
  | inl w ↦
      let two = h.kind.para w.0 in
      let first = h.upxes.within 0 (omega arith) in
      let second = h.upxes.within 1 (omega arith) in
      elim w.1 [
        | inl p ↦
            let here = p.here in
            let in_list = fault_within (drop 2 (counted_bytes std (upx_place std base 0))) _ p.offset p.broken in
            let rest = length-drop 2 (counted_bytes std (upx_place std base 0)) in
            let len = length-counted_bytes std (upx_place std base 0) first in
            omega arith
        | inr q ↦
            let here = q.here in
            let in_list = fault_within (counted_bytes std (upx_place std base 1)) _ q.offset q.broken in
            let len = length-counted_bytes std (upx_place std base 1) second in
            omega arith
      ]
  | inr w ↦
      let one = h.kind.char w.0 in
      let first = h.upxes.within 0 (omega arith) in
      let q = w.1 in
      let here = q.here in
      let in_list = fault_within (counted_bytes std (upx_place std base 0)) _ q.offset q.broken in
      let len = length-counted_bytes std (upx_place std base 0) first in
      omega arith
]

-- past the end numbers are 0
pub number_at-past : (xs : List ℕ) (at k : ℕ) → length xs ≤ at → number_at xs at k ≡ 0
unfolding number_at
number_at-past xs at zero h = refl
number_at-past xs at (suc k) h =
    let before = number_at-past xs at k h in
    let none = get_or_past xs (at + k) 0 (omega arith) in
    rw (before, none) (omega arith)

-- an empty slot has no lists
pub accepted_empty : (std : List ℕ) (base : ℕ) → length std ≡ 0 → HasAcceptedLists std base
accepted_empty std base h =
    let none = number_at-past std 2 2 (omega arith) in
    record { para = λ e. absurd (omega arith); char = λ e. absurd (omega arith) }

-- the place after one that was reached
pub place_step : (part : List ℕ) (k place next : ℕ) → 1 ≤ k → place ≡ slot_place part (k - 1) →
    next ≡ even_up (counted_end part place) → next ≡ slot_place part k
place_step part k place next some here e =
    let same : suc (k - 1) ≡ k = omega arith in
    e ∙ (ap (λ p. even_up (counted_end part p)) here ∙ ap (slot_place part) same)

-- one slot more that is spelt
pub slots_more : (part : List ℕ) (styles : List (Option Style)) (slot : Option Style) (n : ℕ) → length styles ≡ n →
    ((k : ℕ) → k < n → SpellsSlot part k (slice_index_or styles k None)) → SpellsSlot part n slot → (k : ℕ) →
    k < n + 1 → SpellsSlot part k (slice_index_or (styles ++ slot ∷ []) k None)
slots_more part styles slot n len old new =
    below_more (λ k. SpellsSlot part k (slice_index_or (styles ++ slot ∷ []) k None)) n
    (λ k below. subst (SpellsSlot part k) (sym (get_or_append_left styles (slot ∷ []) None k (omega arith)))
    (old k below))
    (subst (SpellsSlot part n) (sym (ap (λ i. slice_index_or (styles ++ slot ∷ []) i None) (sym len) ∙
    get_or-append_seam styles slot [] None)) new)
