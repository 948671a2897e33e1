-- Bytes of a stream that are put at their places, one after another.
use Rattle.std.proofs.Common.{◌≡◌, ◌∙◌, inl, inr, sym, ap, subst, ℕ, suc, ◌+◌, ◌<◌, ◌≤◌, List, [], ◌∷◌, Option, Some, None, drop}
use Rattle.std.proofs.Common.{arith, length, slice_index, slice_set, drop-cons}
use Rattle.std.proofs.lemmas.List.{get_or-set_same, get_or-set_other, set_past}
use Rattle.std.proofs.lemmas.Bool.{cases_eq, cases_lt}
use Rattle.doc_bits.specs.Number.{AreBytes}
use Rattle.file_mends.specs.Rewritten.{place_of_byte, with_byte, rewritten}

-- one byte more is at its place
pub rewritten_step : (sectors bytes file made : List ℕ) (from k : ℕ) → k < length bytes →
    made ≡ with_byte file (place_of_byte sectors (from + k)) (slice_index bytes k) →
    rewritten sectors (from + (k + 1)) (drop (k + 1) bytes) made ≡ rewritten sectors (from + k) (drop k bytes) file
rewritten_step sectors bytes file made from k below is =
    let next : from + (k + 1) ≡ suc (from + k) = omega arith in
    let count : k + 1 ≡ suc k = omega arith in
    let here = drop-cons bytes k 0 below in
    ap (λ x. rewritten sectors x (drop (k + 1) bytes) made) next
    ∙ (ap (λ n. rewritten sectors (suc (from + k)) (drop n bytes) made) count
    ∙ (ap (λ m. rewritten sectors (suc (from + k)) (drop (suc k) bytes) m) is
    ∙ sym (ap (λ l. rewritten sectors (from + k) l file) here)))

-- a byte behind the file changes nothing
pub behind_file : (file : List ℕ) (found : Option ℕ) (place byte : ℕ) → found ≡ Some place → length file ≤ place →
    file ≡ with_byte file found byte
behind_file file found place byte is past =
    sym (ap (λ p. with_byte file p byte) is ∙ set_past file place byte past)

-- bytes stay bytes
pub with_byte_bytes : (file : List ℕ) (place : Option ℕ) (byte : ℕ) → AreBytes file → byte < 256 →
    AreBytes (with_byte file place byte)
with_byte_bytes file None byte are small i = are i
with_byte_bytes file (Some place) byte are small i = elim (cases_eq i place) [
  | inl same ↦ elim (cases_lt place (length file)) [
    | inl within ↦
        subst (λ b. b < 256)
        (sym (ap (λ k. slice_index (slice_set file place byte) k) same ∙ get_or-set_same file place byte 0 within)) small
    | inr past ↦ subst (λ (l : List ℕ). slice_index l i < 256) (sym (set_past file place byte past)) (are i)
  ]
  | inr apart ↦ subst (λ b. b < 256) (sym (get_or-set_other file place i byte 0 apart)) (are i)
]

pub rewritten_bytes : (sectors : List ℕ) (x : ℕ) (bytes file : List ℕ) → AreBytes bytes → AreBytes file →
    AreBytes (rewritten sectors x bytes file)
rewritten_bytes sectors x [] file small are = are
rewritten_bytes sectors x (byte ∷ bytes) file small are =
    rewritten_bytes sectors (suc x) bytes (with_byte file (place_of_byte sectors x) byte) (λ i. small (suc i))
    (with_byte_bytes file (place_of_byte sectors x) byte are (small 0))
