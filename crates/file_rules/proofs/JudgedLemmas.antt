-- Sepxs that were checked.
use Rattle.std.proofs.Common.{◌≡◌, ℕ, List, [], ◌∷◌, ◌++◌, refl, length, Option, Some, slice_get, get_or, arith}
use Rattle.std.proofs.lemmas.Option.{none-some, slice_get_within, slice_get_read}
use Rattle.doc_bits.specs.Rules.{LeastOrNone}
use Rattle.doc_bits.proofs.Public.{together_joined}
use Rattle.direct_props.proofs.Public.{together_one}
use Rattle.file_rules.specs.SectionRules.{AreJudgedSepxs, IsJudgedSepx, HasSepxFault}

pub none_judged : (wd : List ℕ) → AreJudgedSepxs wd [] []
none_judged wd = record { len = refl; each = λ k place fault p q. absurd (none-some place p) }

-- the fault that is kept at a number
pub judged_before : (wd : List ℕ) (places : List (ℕ × ℕ)) (faults : List (Option ℕ)) (k fc : ℕ) (fault : Option ℕ) →
    AreJudgedSepxs wd places faults → slice_get places k ≡ Some (fc, fc) → fault ≡ get_or faults k fault →
    LeastOrNone (HasSepxFault wd fc) fault
judged_before wd places faults k fc fault are there here =
    let within = slice_get_within places k (fc, fc) there in
    let len = are.len in
    are.each k (fc, fc) fault there (slice_get_read faults (length faults) k fault refl (omega arith) here)

-- one Sepx more
pub one_judged : (wd : List ℕ) (places : List (ℕ × ℕ)) (faults : List (Option ℕ)) (fc : ℕ) (fault : Option ℕ) →
    AreJudgedSepxs wd places faults → LeastOrNone (HasSepxFault wd fc) fault →
    AreJudgedSepxs wd (places ++ (fc, fc) ∷ []) (faults ++ fault ∷ [])
one_judged wd places faults fc fault are is =
    together_joined (IsJudgedSepx wd) places faults ((fc, fc) ∷ []) (fault ∷ []) are
    (together_one (IsJudgedSepx wd) (fc, fc) fault is)
