-- Marks that are kept as stamps: a sector is marked where its stamp is the walk's own.
use Rattle.std.proofs.Common.{◌≡◌, inl, inr, ℕ, ◌==◌, ◌<◌, Bool, true, false, List, length, replicate, set}
use Rattle.std.proofs.Common.{slice_index}
use Rattle.std.proofs.Common.{refl}
use Rattle.std.proofs.Common.{sym, ap, ◌∙◌, arith, eqb-true, eq-eqb}
use Rattle.std.proofs.lemmas.Bool.{cases_lt, false≢true}
use Rattle.std.proofs.lemmas.List.{get_or-map, get_or-replicate, get_or_past, map-set, length-map, length-replicate}
use Rattle.cfb_sectors.specs.Marks.{IsMarked, stamped_marks}

pub IsMarked-stamp : (stamps : List ℕ) (stamp s : ℕ) → IsMarked (stamped_marks stamps stamp) s → slice_index stamps s ≡
    stamp
IsMarked-stamp stamps stamp s h = elim (cases_lt s (length stamps)) [
  | inl lo ↦ eqb-true (slice_index stamps s) stamp (sym (get_or-map (λ x. x == stamp) stamps s 0 false lo) ∙ h)
  | inr hi ↦
      let len : length (stamped_marks stamps stamp) ≡ length stamps = length-map stamps (λ x. x == stamp) in
      absurd (false≢true (sym (get_or_past (stamped_marks stamps stamp) s false (omega arith)) ∙ h))
]

-- where all stamps are older no sector is marked
pub no_mark : (stamps : List ℕ) (stamp : ℕ) → ((s : ℕ) → slice_index stamps s < stamp) → (s : ℕ) →
    ¬ IsMarked (stamped_marks stamps stamp) s
no_mark stamps stamp older s h = let e = IsMarked-stamp stamps stamp s h in let low = older s in omega arith

-- a stamp that is set is a mark that is set
pub marks_of-set : (stamps : List ℕ) (stamp s : ℕ) →
    stamped_marks (set stamps s stamp) stamp ≡ set (stamped_marks stamps stamp) s true
marks_of-set stamps stamp s =
    map-set (λ x. x == stamp) stamps s stamp ∙ ap (λ b. set (stamped_marks stamps stamp) s b) (eq-eqb stamp stamp refl)

-- a marked sector has a mark
pub marked_below : (marks : List Bool) (s : ℕ) → IsMarked marks s → s < length marks
marked_below marks s h = elim (cases_lt s (length marks)) [
  | inl lo ↦ lo
  | inr hi ↦ absurd (false≢true (sym (get_or_past marks s false hi) ∙ h))
]

-- stamps that are cleared
pub replicate_zero : (count s : ℕ) → slice_index (replicate {A = ℕ} count 0) s ≡ 0
replicate_zero count s = elim (cases_lt s count) [
  | inl lo ↦ get_or-replicate count s 0 0 lo
  | inr hi ↦ let len : length (replicate {A = ℕ} count 0) ≡ count = length-replicate {A = ℕ} count 0 in get_or_past
      (replicate {A = ℕ} count 0) s 0 (omega arith)
]
