-- The pairs: put over zeros, and read again.
use Rattle.std.proofs.Common.{◌≡◌, ◌≢◌, ℕ, replicate, lit<, zero, suc, ◌+◌, ◌-◌, ◌*◌, ◌<◌, List, [], ◌∷◌, ◌++◌}
use Rattle.std.proofs.Common.{length, take, drop, get_or, flat_map, All, refl, sym, ap, ◌∙◌, arith, zero-add}
use Rattle.std.proofs.Common.{append_assoc, length-append}
use Rattle.std.proofs.lemmas.List.FromFn.{fill_by_all, get_or-map-range_with_len, length-map-range_with_len}
use Rattle.std.proofs.lemmas.List.{take_more, append-nil, length-take, take_all, get_or-replicate, length-replicate}
use Rattle.std.proofs.lemmas.List.{get_or-set_other, length-set}
use Rattle.std.specs.Prelude.{slice_set}
use Rattle.std.proofs.lemmas.Grind.{flat_map-append}
use Rattle.doc_bits.specs.Number.{number_at, number_bytes}
use Rattle.doc_bits.proofs.Public.{length-number_bytes}
use Rattle.fib_form.specs.Fib.{kept_pairs, fib_pair, fib_pairs}
use Rattle.fib_form.specs.FibFields.{listed_pair, empty_pairs, ArePairs, IsWidePair}
use Rattle.fib_form.specs.FibBytes.{fc_lcb_bytes, zeros}
use Rattle.fib_form.proofs.FieldLemmas.{read_here, put_over_zeros, no_zeros}

-- pairs that are all those of a stream
pub fib_pairs-by_place : (wd : List ℕ) (pairs : List (ℕ × ℕ)) → length pairs ≡ kept_pairs →
    ((n : ℕ) → n < kept_pairs → get_or pairs n (0, 0) ≡ fib_pair wd n) → pairs ≡ fib_pairs wd
unfolding fib_pairs
fib_pairs-by_place wd pairs count same = fill_by_all (fib_pair wd) pairs kept_pairs (0, 0) count same

pub length-fib_pairs : (wd : List ℕ) → length (fib_pairs wd) ≡ kept_pairs
unfolding fib_pairs
length-fib_pairs wd = length-map-range_with_len (fib_pair wd) 0 kept_pairs

-- a pair of a stream
pub pair_at-fib_pairs : (wd : List ℕ) (n : ℕ) → n < kept_pairs → listed_pair (fib_pairs wd) n ≡ fib_pair wd n
unfolding fib_pairs
pair_at-fib_pairs wd n h = get_or-map-range_with_len (fib_pair wd) 0 kept_pairs n n (0, 0) h (zero-add n)

-- a pair has eight bytes
pub length-pair_bytes : (pair : ℕ × ℕ) → length (fc_lcb_bytes pair) ≡ 8
length-pair_bytes pair = omega (
  arith,
  length-append (number_bytes 4 pair.0) (number_bytes 4 pair.1),
  length-number_bytes 4 pair.0,
  length-number_bytes 4 pair.1,
)

pub length-flat_map-pair_bytes : (pairs : List (ℕ × ℕ)) → length (flat_map fc_lcb_bytes pairs) ≡ 8 * length pairs
length-flat_map-pair_bytes [] = refl
length-flat_map-pair_bytes (pair ∷ pairs) = omega (
  arith,
  length-append (fc_lcb_bytes pair) (flat_map fc_lcb_bytes pairs),
  length-pair_bytes pair,
  length-flat_map-pair_bytes pairs,
)

-- the bytes of one pair more
pub flat_map-take : (pairs : List (ℕ × ℕ)) (n : ℕ) → n < length pairs → flat_map fc_lcb_bytes (take (n + 1) pairs) ≡
    flat_map fc_lcb_bytes (take n pairs) ++ fc_lcb_bytes (listed_pair pairs n)
flat_map-take pairs n h =
    rw (take_more pairs n (0, 0) h, flat_map-append fc_lcb_bytes (take n pairs) (listed_pair pairs n ∷ []))
    (ap (λ l. flat_map fc_lcb_bytes (take n pairs) ++ l) (append-nil (fc_lcb_bytes (listed_pair pairs n))))

-- a pair is read as its numbers
pub read_pair : (pairs : List (ℕ × ℕ)) (n : ℕ) (front tail : List ℕ) → n < length pairs → All IsWidePair pairs →
    (number_at (front ++ (flat_map fc_lcb_bytes pairs ++ tail)) (length front + 8 * n) 4 ≡ (listed_pair pairs n).0) ×
    (number_at (front ++ (flat_map fc_lcb_bytes pairs ++ tail)) (length front + 8 * n + 4) 4 ≡ (listed_pair pairs n).1)
read_pair [] n front tail h wide = absurd (omega arith)
read_pair (pair ∷ pairs) zero front tail h wide =
    let fits : IsWidePair pair = wide 0 (0, 0) (omega arith) in
    let whole = front ++ (flat_map fc_lcb_bytes (pair ∷ pairs) ++ tail) in
    let size : length (front ++ number_bytes 4 pair.0) ≡ length front + 4 = omega (
      arith,
      length-append front
          (number_bytes 4 pair.0),
      length-number_bytes 4 pair.0,
    ) in (
      read_here front (number_bytes 4 pair.1 ++ (flat_map fc_lcb_bytes pairs ++ tail)) whole (length front + 8 * 0) 4
          pair.0 (omega arith) (simp append_assoc) fits.0,
      read_here (front ++ number_bytes 4 pair.0) (flat_map fc_lcb_bytes pairs ++ tail) whole (length front + 8 * 0 + 4)
          4 pair.1 (omega arith) (simp append_assoc) fits.1,
    )
read_pair (pair ∷ pairs) (suc n) front tail h wide =
    let front_now = front ++ fc_lcb_bytes pair in
    let size : length front_now ≡ length front + 8 = omega (
      arith,
      length-append front (fc_lcb_bytes pair),
      length-pair_bytes pair,
    ) in
    let place : length front + 8 * suc n ≡ length front_now + 8 * n = omega arith in
    let whole : front ++ (flat_map fc_lcb_bytes (pair ∷ pairs) ++ tail) ≡ front_now ++ (flat_map fc_lcb_bytes pairs ++
    tail) = simp append_assoc in
    let rest : All IsWidePair pairs = λ k d low. wide (suc k) d (omega arith) in
    rw (whole, place) (read_pair pairs n front_now tail (omega arith) rest)

-- the bytes of one pair more are put over zeros
pub pairs_more : (pairs : List (ℕ × ℕ)) (n : ℕ) (front tail before next after : List ℕ) → n < 93 → length pairs ≡ 93 →
    length front ≡ 154 → before ≡ front ++ (flat_map fc_lcb_bytes (take n pairs) ++ (zeros (744 - 8 * n) ++ tail)) →
    next ≡ take (154 + 8 * n) before ++ (number_bytes 4 (listed_pair pairs n).0 ++ drop (154 + 8 * n + 4) before) →
    after ≡ take (154 + 8 * n + 4) next ++ (number_bytes 4 (listed_pair pairs n).1 ++ drop (154 + 8 * n + 4 + 4) next) →
    after ≡ front ++ (flat_map fc_lcb_bytes (take (n + 1) pairs) ++ (zeros (744 - 8 * (n + 1)) ++ tail))
pairs_more pairs n front tail before next after h count size is_before is_next is_after =
    let done = flat_map fc_lcb_bytes (take n pairs) in
    let fc = number_bytes 4 (listed_pair pairs n).0 in
    let lcb = number_bytes 4 (listed_pair pairs n).1 in
    let size_done : length done ≡ 8 * n = omega (
      arith,
      length-flat_map-pair_bytes (take n pairs),
      length-take n pairs,
    ) in
    let left : 744 - 8 * n ≡ 4 + (740 - 8 * n) = omega arith in
    let left_next : 740 - 8 * n ≡ 4 + (744 - 8 * (n + 1)) = omega arith in
    let apart : before ≡ (front ++ done) ++ (zeros (4 + (740 - 8 * n)) ++ tail) = rw (is_before, ← left)
    (sym (append_assoc front done (zeros (744 - 8 * n) ++ tail))) in
    let put = put_over_zeros (front ++ done) tail before (154 + 8 * n) 4 (740 - 8 * n) (listed_pair pairs n).0
    (omega (arith, length-append front done)) apart in
    let apart_next : next ≡ ((front ++ done) ++ fc) ++ (zeros (4 + (744 - 8 * (n + 1))) ++ tail) = rw (
      is_next,
      put,
      ← left_next,
    ) (sym (append_assoc (front ++ done) fc (zeros (740 - 8 * n) ++ tail))) in
    let size_next : 154 + 8 * n + 4 ≡ length ((front ++ done) ++ fc) = omega (
      arith,
      length-append (front ++ done) fc,
      length-append front done,
      length-number_bytes 4 (listed_pair pairs n).0,
    ) in
    let put_next = put_over_zeros ((front ++ done) ++ fc) tail next (154 + 8 * n + 4) 4 (744 - 8 * (n + 1))
    (listed_pair pairs n).1 size_next apart_next in
    rw (is_after, put_next, flat_map-take pairs n (omega arith)) (simp append_assoc)

-- the bytes of all pairs
pub pairs_all : (pairs : List (ℕ × ℕ)) (n : ℕ) (front tail out : List ℕ) → n ≡ 93 → length pairs ≡ 93 →
    out ≡ front ++ (flat_map fc_lcb_bytes (take n pairs) ++ (zeros (744 - 8 * n) ++ tail)) →
    out ≡ front ++ (flat_map fc_lcb_bytes pairs ++ tail)
pairs_all pairs n front tail out n_is count e =
    let left : 744 - 8 * n ≡ 0 = omega arith in
    let all : take n pairs ≡ pairs = take_all n pairs (omega arith) in
    rw (e, left, all, no_zeros tail) refl

-- empty pairs, and pairs of parts that may be there, are those of a FIB
pub empty-ArePairs : ArePairs empty_pairs
unfolding empty_pairs
empty-ArePairs =
    let none : (n : ℕ) → n < 93 → (listed_pair (replicate 93 (0, 0)) n).1 ≡ 0 = λ n h. ap (λ pair. pair.1)
    (get_or-replicate {A = ℕ × ℕ} 93 n (0, 0) (0, 0) h) in
    record {
      count = length-replicate {A = ℕ × ℕ} 93 (0, 0);
      main_drawings = omega (arith, none 40 (lit< tt));
      header_drawings = omega (arith, none 41 (lit< tt));
      endnotes = omega (arith, none 46 (lit< tt));
    }

pub put-ArePairs : (pairs : List (ℕ × ℕ)) (n : ℕ) (pair : ℕ × ℕ) → ArePairs pairs → n ≢ 40 → n ≢ 41 → n ≢ 46 →
    ArePairs (slice_set pairs n pair)
put-ArePairs pairs n pair are b c d =
    let stays : (k : ℕ) → k ≢ n → (listed_pair (slice_set pairs n pair) k).1 ≡ (listed_pair pairs k).1 = λ k ne. ap (λ
    q. q.1)
    (get_or-set_other pairs n k pair (0, 0) ne) in
    let main_drawings = are.main_drawings in
    let header_drawings = are.header_drawings in
    let endnotes = are.endnotes in
    record {
      count = length-set pairs n pair ∙ are.count;
      main_drawings = omega (arith, stays 40 (λ e. b (sym e)));
      header_drawings = omega (arith, stays 41 (λ e. c (sym e)));
      endnotes = omega (arith, stays 46 (λ e. d (sym e)));
    }
