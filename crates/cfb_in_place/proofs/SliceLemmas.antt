-- Numbers in a row, blocks of one width, and parts of lists.
use Rattle.std.proofs.Common.{◌≡◌, ℕ, zero, suc, ◌+◌, ◌-◌, ◌*◌, ◌/◌, ◌%◌, ◌<◌, List, [], ◌∷◌}
use Rattle.std.proofs.Common.{length, slice_index, refl, sym}
use Rattle.std.proofs.Common.{ap}
use Rattle.std.proofs.Common.{◌∙◌, arith, length-append}
use Rattle.std.specs.List.{flat_map, range_with_len}
use Rattle.std.proofs.lemmas.List.{get_or_append_left, get_or-append_right}
use Rattle.doc_bits.specs.Number.{AreBytes, number_at, number_bytes, u32_at}
use Rattle.doc_bits.proofs.Public.{length-number_bytes}

-- a byte of numbers in a row
pub numbers_at : (xs : List ℕ) (k i at : ℕ) → k < length xs → i < 4 → at ≡ 4 * k + i →
    slice_index (flat_map (number_bytes
    4) xs) at ≡ slice_index (number_bytes 4 (slice_index xs k)) i
numbers_at [] k i at h low here = absurd (omega arith)
numbers_at (x ∷ xs) zero i at h low here =
    let len = length-number_bytes 4 x in
    let place : at ≡ i = omega arith in
    get_or_append_left (number_bytes 4 x) (flat_map (number_bytes 4) xs) 0 at (omega arith)
    ∙ ap (λ n. slice_index (number_bytes 4 x) n) place
numbers_at (x ∷ xs) (suc k) i at h low here =
    get_or-append_right (number_bytes 4 x) (flat_map (number_bytes 4) xs) 4 at 0 (length-number_bytes 4 x) (omega arith)
    ∙ numbers_at xs k i (at - 4) (omega arith) low (omega arith)

-- a byte of the k-th of blocks of one width
pub blocks_in : (f : ℕ → List ℕ) (width start n k x at here : ℕ) → ((j : ℕ) → j < start + n → length (f j) ≡ width) →
    k < n
    → x < width → at ≡ width * k + x → here ≡ start + k → slice_index (flat_map f (range_with_len start n)) at ≡
    slice_index (f here) x
blocks_in f width start zero k x at here len h less is same = absurd (omega arith)
blocks_in f width start (suc n) zero x at here len h less is same =
    let none : width * 0 ≡ 0 = grind arith in
    let place : at ≡ x = omega arith in
    let first : start ≡ here = omega arith in
    let one = len start (omega arith) in
    get_or_append_left (f start) (flat_map f (range_with_len (start + 1) n)) 0 at (omega arith)
    ∙ (ap (λ k. slice_index (f start) k) place ∙ ap (λ s. slice_index (f s) x) first)
blocks_in f width start (suc n) (suc k) x at here len h less is same =
    let all : width * suc k ≡ width + width * k = grind arith in
    let one = len start (omega arith) in
    get_or-append_right (f start) (flat_map f (range_with_len (start + 1) n)) width at 0 one (omega arith)
    ∙ blocks_in f width (start + 1) n k x (at - width) here (λ j low. len j (omega arith)) (omega arith) less
    (omega arith) (omega arith)

pub length_blocks : (f : ℕ → List ℕ) (width start n : ℕ) → ((j : ℕ) → j < start + n → length (f j) ≡ width) → length
    (flat_map f (range_with_len start n)) ≡ width * n
length_blocks f width start zero len = let none : width * 0 ≡ 0 = grind arith in sym none
length_blocks f width start (suc n) len =
    let all : width * suc n ≡ width + width * n = grind arith in
    let one = len start (omega arith) in
    let a = length-append (f start) (flat_map f (range_with_len (start + 1) n)) in
    let c = length_blocks f width (start + 1) n (λ j low. len j (omega arith)) in
    omega arith

-- the bytes of a number of the file are those of the file
pub spelled_back : (file : List ℕ) (at i : ℕ) → AreBytes file → i < 4 →
    slice_index (number_bytes 4 (u32_at file at)) i ≡
    slice_index file (at + i)
unfolding number_at number_bytes
spelled_back file at zero bytes h =
    let a = bytes (at + 0) in
    let c = bytes (at + 1) in
    let d = bytes (at + 2) in
    let e = bytes (at + 3) in
    let byte : slice_index (number_bytes 4 (u32_at file at)) 0 ≡ u32_at file at % 256 = refl in
    omega arith
spelled_back file at (suc zero) bytes h =
    let a = bytes (at + 0) in
    let c = bytes (at + 1) in
    let d = bytes (at + 2) in
    let e = bytes (at + 3) in
    let byte : slice_index (number_bytes 4 (u32_at file at)) 1 ≡ u32_at file at / 256 % 256 = refl in
    omega arith
spelled_back file at (suc (suc zero)) bytes h =
    let a = bytes (at + 0) in
    let c = bytes (at + 1) in
    let d = bytes (at + 2) in
    let e = bytes (at + 3) in
    let byte : slice_index (number_bytes 4 (u32_at file at)) 2 ≡ u32_at file at / 65536 % 256 = refl in
    omega arith
spelled_back file at (suc (suc (suc zero))) bytes h =
    let a = bytes (at + 0) in
    let c = bytes (at + 1) in
    let d = bytes (at + 2) in
    let e = bytes (at + 3) in
    let byte : slice_index (number_bytes 4 (u32_at file at)) 3 ≡ u32_at file at / 16777216 % 256 = refl in
    omega arith
spelled_back file at (suc (suc (suc (suc i)))) bytes h = absurd (omega arith)
