-- Numbers in bytes: where they are in a longer list, and how their bytes spell them.
use Rattle.std.proofs.Common.{◌≡◌, ℕ, zero, suc, ◌+◌, ◌-◌, ◌*◌, ◌^◌, ◌<◌, ◌≤◌, List, [], ◌∷◌, ◌++◌, length, take}
use Rattle.std.proofs.Common.{drop, slice_index, refl, sym, ap, ◌∙◌, arith, add_assoc, append_assoc, add-zero}
use Rattle.std.proofs.Common.{length-append, length-take}
use Rattle.std.proofs.Math.Nat.{mul-le-mul_right, pow-succ'}
use Rattle.std.proofs.lemmas.List.{length-replicate, replicate-append-replicate, get_or-append-add}
use Rattle.std.proofs.lemmas.List.{get_or_append_left, get_or-take, get_or-drop, drop_all, append-nil, drop-drop}
use Rattle.std.specs.Prelude.{slice_range}
use Rattle.std.specs.Int.{bytes_low_first}
use borrow.Rule.Slice.PartMut.{put_mid}
use Rattle.byteorder.specs.Endian.{little_from}
use Rattle.byteorder.specs.Numbers.{little_number-reads_back, length-bytes_low_first}
use Rattle.doc_bits.specs.Number.{number_at, number_bytes, u32_list_bytes, zeros}

-- the lowest byte apart, and the rest as a number one place on
pub number_at-first : (xs : List ℕ) (at k : ℕ) → number_at xs at (suc k) ≡ slice_index xs at + 256 * number_at xs
    (suc at) k
unfolding number_at
number_at-first xs at zero = rw (add-zero at) (omega arith)
number_at-first xs at (suc k) =
    let ih = number_at-first xs at k in
    let place : at + suc k ≡ suc at + k = omega arith in
    let power : 256 ^ suc k ≡ 256 * 256 ^ k = pow-succ' 256 k in
    rw (ih, place, power) (omega arith)

-- the sum is what byteorder reads
pub little_from-number_at : (k at : ℕ) (xs : List ℕ) → little_from at k xs ≡ number_at xs at k
unfolding number_at
little_from-number_at zero at xs = refl
little_from-number_at (suc k) at xs = rw (little_from-number_at k (suc at) xs) (sym (number_at-first xs at k))

-- bytes in front move the place on
pub number_at-after : (front xs : List ℕ) (at k : ℕ) → number_at (front ++ xs) (length front + at) k ≡ number_at xs at k
unfolding number_at
number_at-after front xs at zero = refl
number_at-after front xs at (suc k) = rw (
  number_at-after front xs at k,
  add_assoc (length front) at k,
  get_or-append-add front xs (at + k) 0,
) refl

-- bytes behind the number change nothing
pub number_at-before : (xs more : List ℕ) (at k : ℕ) → at + k ≤ length xs → number_at (xs ++ more) at k ≡ number_at xs
    at k
unfolding number_at
number_at-before xs more at zero h = refl
number_at-before xs more at (suc k) h = rw (
  number_at-before xs more at k (omega arith),
  get_or_append_left xs more 0
      (at + k) (omega arith),
) refl

-- a number of what is left of a list
pub number_at-drop : (n : ℕ) (xs : List ℕ) (at k : ℕ) → number_at (drop n xs) at k ≡ number_at xs (n + at) k
unfolding number_at
number_at-drop n xs at zero = refl
number_at-drop n xs at (suc k) = rw (number_at-drop n xs at k, get_or-drop n xs (at + k) 0, add_assoc n at k) refl

-- a number of the front of a list
pub number_at-take : (n : ℕ) (xs : List ℕ) (at k : ℕ) → at + k ≤ n → number_at (take n xs) at k ≡ number_at xs at k
unfolding number_at
number_at-take n xs at zero h = refl
number_at-take n xs at (suc k) h = rw (
  number_at-take n xs at k (omega arith),
  get_or-take n xs (at + k) 0
      (omega arith),
) refl

-- a number of a part
pub number_at-range : (xs : List ℕ) (from to at k : ℕ) → from + at + k ≤ to → number_at (slice_range xs from to) at k
    ≡ number_at xs (from + at) k
number_at-range xs from to at k h = number_at-take (to - from) (drop from xs) at k (omega arith) ∙ number_at-drop from
    xs at k

-- equal bytes spell equal numbers
pub number_at-same : (xs ys : List ℕ) (at here k : ℕ) → ((i : ℕ) → i < k → slice_index xs (at + i) ≡ slice_index ys
    (here + i)) → number_at xs at k ≡ number_at ys here k
unfolding number_at
number_at-same xs ys at here zero same = refl
number_at-same xs ys at here (suc k) same = rw (
  number_at-same xs ys at here k (λ i h. same i (omega arith)),
  same k (omega arith),
) refl

-- a number of k bytes is below the k-th power of 256
pub number_at-bound : (xs : List ℕ) (at k : ℕ) → ((i : ℕ) → slice_index xs i < 256) → number_at xs at k < 256 ^ k
unfolding number_at
number_at-bound xs at zero bytes = omega arith
number_at-bound xs at (suc k) bytes =
    let ih = number_at-bound xs at k bytes in
    let byte = bytes (at + k) in
    let top : slice_index xs (at + k) * 256 ^ k ≤ 255 * 256 ^ k = mul-le-mul_right (256 ^ k) (omega arith) in
    rw (pow-succ' 256 k) (omega arith)

-- a number has as many bytes as its width
pub length-number_bytes : (k x : ℕ) → length (number_bytes k x) ≡ k
unfolding number_bytes
length-number_bytes k x = length-bytes_low_first 0 k x

-- the bytes of a number spell it
pub number_at-number_bytes : (k x : ℕ) (rest : List ℕ) → x < 256 ^ k → number_at (number_bytes k x ++ rest) 0 k ≡ x
unfolding number_bytes
number_at-number_bytes k x rest h = sym (little_from-number_at k 0 (bytes_low_first 0 k x ++ rest)) ∙
    little_number-reads_back k x rest h

-- the same wherever they are
pub number_at-read_back : (k x : ℕ) (before after : List ℕ) → x < 256 ^ k → number_at (before ++ (number_bytes k x ++
    after)) (length before) k ≡ x
number_at-read_back k x before after h =
    rw (← add-zero (length before)) (number_at-after before (number_bytes k x ++ after) 0 k ∙ number_at-number_bytes k
    x after h)

-- a number that is read from the front of a part
pub little_from-part : (k at : ℕ) (xs : List ℕ) → little_from 0 k (take (at + k - at) (drop at xs)) ≡ number_at xs at k
little_from-part k at xs =
    little_from-number_at k 0 (take (at + k - at) (drop at xs))
    ∙ (number_at-take (at + k - at) (drop at xs) 0 k (omega arith)
    ∙ (number_at-drop at xs 0 k ∙ ap (λ place. number_at xs place k) (add-zero at)))

-- what a write of a number over a part leaves
pub put_mid-number : (k at value : ℕ) (xs buf : List ℕ) → buf ≡ number_bytes k value ++ drop k (take (at + k - at)
    (drop at xs)) → put_mid at (at + k - at) xs buf ≡ take at xs ++ (number_bytes k value ++ drop (at + k) xs)
put_mid-number k at value xs buf e =
    let width : at + k - at ≡ k = omega arith in
    let none : drop k (take k (drop at xs)) ≡ [] = drop_all k (take k (drop at xs)) (omega (
      arith,
      length-take {A = ℕ},
    )) in
    rw (e, width, none, append-nil (number_bytes k value), drop-drop k at xs)

-- four bytes for each number
pub length-numbers : (xs : List ℕ) → length (u32_list_bytes xs) ≡ 4 * length xs
length-numbers [] = refl
length-numbers (x ∷ xs) =
    let ih = length-numbers xs in
    let four = length-number_bytes 4 x in
    omega (arith, length-append (number_bytes 4 x) (u32_list_bytes xs))

-- each number is at four times its place
pub number_at-numbers : (xs more : List ℕ) (k : ℕ) → k < length xs → slice_index xs k < 2 ^ 32 →
    number_at (u32_list_bytes xs ++ more) (4 * k) 4 ≡ slice_index xs k
number_at-numbers [] more k h small = absurd (omega arith)
number_at-numbers (x ∷ xs) more zero h small =
    rw (append_assoc (number_bytes 4 x) (u32_list_bytes xs) more) (number_at-number_bytes 4 x (u32_list_bytes xs ++
    more) small)
number_at-numbers (x ∷ xs) more (suc k) h small =
    let ih = number_at-numbers xs more k (omega arith) small in
    let place : 4 * suc k ≡ length (number_bytes 4 x) + 4 * k = omega (arith, length-number_bytes 4 x) in
    rw (append_assoc (number_bytes 4 x) (u32_list_bytes xs) more, place)
    (number_at-after (number_bytes 4 x) (u32_list_bytes xs ++ more) (4 * k) 4 ∙ ih)

-- ---- zero bytes

-- zeros apart
pub zeros-add : (n m : ℕ) → zeros (n + m) ≡ zeros n ++ zeros m
unfolding zeros
zeros-add n m = sym (replicate-append-replicate n m 0)

pub length-zeros : (n : ℕ) → length (zeros n) ≡ n
unfolding zeros
length-zeros n = length-replicate n 0

-- a CP counted from the start
pub zero_more : (cp : ℕ) → 0 + cp ≡ cp
zero_more cp = omega arith
