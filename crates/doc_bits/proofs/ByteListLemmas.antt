-- Lists of bytes: their parts, such lists joined, and the bytes of a number that was read.
use Rattle.std.proofs.Common.{◌≡◌, inl, inr, refl, sym, ap, subst, ◌∙◌, ℕ, zero, suc, ◌+◌, ◌-◌, ◌*◌, ◌/◌, ◌%◌, ◌^◌}
use Rattle.std.proofs.Common.{◌<◌, ◌≤◌, List, [], ◌∷◌, ◌++◌, length, take, drop, get_or, arith, length-take}
use Rattle.std.specs.Prelude.{slice_range}
use Rattle.std.specs.List.{flat_map}
use Rattle.std.specs.Int.{bytes_low_first, byte_at}
use Rattle.std.proofs.Math.Nat.{pow-suc, div-div-eq-div-mul, div-one}
use Rattle.std.proofs.lemmas.Bool.{cases_lt}
use Rattle.std.proofs.lemmas.List.{get_or_past, get_or-take, get_or-drop, get_or_append_left, get_or-append-add}
use Rattle.doc_bits.specs.Number.{number_at, number_bytes, AreBytes}
use Rattle.doc_bits.proofs.NumberLemmas.{number_at-first, number_at-after, number_at-take}

pub AreBytes-drop : (n : ℕ) (xs : List ℕ) → AreBytes xs → AreBytes (drop n xs)
AreBytes-drop n xs bytes i = subst (λ b. b < 256) (sym (get_or-drop n xs i 0)) (bytes (n + i))

pub AreBytes-take : (n : ℕ) (xs : List ℕ) → AreBytes xs → AreBytes (take n xs)
AreBytes-take n xs bytes i = elim (cases_lt i n) [
  | inl low ↦ subst (λ b. b < 256) (sym (get_or-take n xs i 0 low)) (bytes i)
  | inr high ↦ subst (λ b. b < 256) (sym (get_or_past (take n xs) i 0 (omega (arith, length-take n xs)))) (omega arith)
]

pub AreBytes-range : (xs : List ℕ) (from to : ℕ) → AreBytes xs → AreBytes (slice_range xs from to)
AreBytes-range xs from to bytes = AreBytes-take (to - from) (drop from xs) (AreBytes-drop from xs bytes)

pub front_bytes : (xs ys : List ℕ) → AreBytes (xs ++ ys) → AreBytes xs
front_bytes xs ys bytes i = elim (cases_lt i (length xs)) [
  | inl low ↦ subst (λ b. b < 256) (get_or_append_left xs ys 0 i low) (bytes i)
  | inr high ↦ subst (λ b. b < 256) (sym (get_or_past xs i 0 high)) (omega arith)
]

pub back_bytes : (xs ys : List ℕ) → AreBytes (xs ++ ys) → AreBytes ys
back_bytes xs ys bytes i = subst (λ b. b < 256) (get_or-append-add xs ys i 0) (bytes (length xs + i))

pub no_bytes : AreBytes []
no_bytes i = omega arith

pub joined_bytes : (xs ys : List ℕ) → AreBytes xs → AreBytes ys → AreBytes (xs ++ ys)
joined_bytes xs ys one other i = elim (cases_lt i (length xs)) [
  | inl low ↦ subst (λ b. b < 256) (sym (get_or_append_left xs ys 0 i low)) (one i)
  | inr high ↦
      let at : i ≡ length xs + (i - length xs) = omega arith in
      subst (λ b. b < 256) (sym (ap (λ n. get_or (xs ++ ys) n 0) at ∙ get_or-append-add xs ys (i - length xs) 0))
      (other (i - length xs))
]

pub AreBytes-flat_map : {A : Type 0} (f : A → List ℕ) (xs : List A) → ((x : A) → AreBytes (f x)) →
    AreBytes (flat_map f xs)
AreBytes-flat_map f [] each = no_bytes
AreBytes-flat_map f (x ∷ xs) each = joined_bytes (f x) (flat_map f xs) (each x) (AreBytes-flat_map f xs each)

pub one_byte : (byte : ℕ) → byte < 256 → AreBytes (byte ∷ [])
one_byte byte small zero = small
one_byte byte small (suc i) = omega arith

byte_at-pow : (k x : ℕ) → byte_at k x ≡ x / 256 ^ k % 256
byte_at-pow zero x = ap (λ (y : ℕ). y % 256) (sym (div-one x))
byte_at-pow (suc k) x = refl

-- the bytes of a number are those that spell it
digits : (k i x : ℕ) (xs : List ℕ) → length xs ≡ k → AreBytes xs → x / 256 ^ i ≡ number_at xs 0 k → bytes_low_first i
    k x ≡ xs
digits zero i x [] len bytes e = refl
digits zero i x (b ∷ rest) len bytes e = absurd (omega arith)
digits (suc k) i x [] len bytes e = absurd (omega arith)
digits (suc k) i x (b ∷ rest) len bytes e =
    let first = number_at-first (b ∷ rest) 0 k in
    let moved = number_at-after (b ∷ []) rest 0 k in
    let byte : b < 256 = bytes 0 in
    let parts : x / 256 ^ i ≡ b + 256 * number_at rest 0 k = e ∙ (first ∙ ap (λ n. b + 256 * n) moved) in
    let low : x / 256 ^ i % 256 ≡ b = rw parts (omega arith) in
    let shift : x / 256 ^ suc i ≡ x / 256 ^ i / 256 = ap (λ (p : ℕ). x / p) (pow-suc 256 i) ∙ sym (div-div-eq-div-mul
    x (256 ^ i) 256) in
    let high : x / 256 ^ suc i ≡ number_at rest 0 k = shift ∙ rw parts (omega arith) in
    let more : bytes_low_first (suc i) k x ≡ rest = digits k (suc i) x rest (omega arith) (λ j. bytes (suc j)) high in
    rw (byte_at-pow i x, low, more) refl

-- bytes are those of the number that they spell
pub number_bytes-number_at : (k : ℕ) (xs : List ℕ) → AreBytes xs → k ≤ length xs → number_bytes k (number_at xs 0 k) ≡
    take k xs
unfolding number_bytes
number_bytes-number_at k xs bytes long =
    let len : length (take k xs) ≡ k = omega (arith, length-take k xs) in
    let read : number_at xs 0 k / 256 ^ 0 ≡ number_at (take k xs) 0 k = div-one (number_at xs 0 k) ∙ sym
    (number_at-take k xs 0 k (omega arith)) in
    digits k 0 (number_at xs 0 k) (take k xs) len (AreBytes-take k xs bytes) read

pub small_byte : (i x : ℕ) → byte_at i x < 256
small_byte zero x = omega arith
small_byte (suc i) x = omega arith

pub low_bytes : (i k x : ℕ) → AreBytes (bytes_low_first i k x)
low_bytes i zero x = no_bytes
low_bytes i (suc k) x =
    joined_bytes (byte_at i x ∷ []) (bytes_low_first (suc i) k x) (one_byte (byte_at i x) (small_byte i x))
    (low_bytes (suc i) k x)

pub number_are_bytes : (x : ℕ) → AreBytes (number_bytes 2 x)
unfolding number_bytes
number_are_bytes x = low_bytes 0 2 x
