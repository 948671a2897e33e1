-- The places of ends among the sorted ends.
use Rattle.std.proofs.Common.{◌≡◌, ◌≢◌, ◌∙◌, inl, inr, refl, sym, ap, subst, ℕ, zero, suc, ◌+◌, ◌^◌, ◌<◌, ◌≤◌, Bool}
use Rattle.std.proofs.Common.{true, false}
use Rattle.std.proofs.Common.{add-one, replicate}
use Rattle.std.proofs.Common.{cond, List, [], ◌∷◌, ◌++◌, length, map, take, arith, append_assoc}
use Rattle.std.specs.Prelude.{◌==◌, nat_lt, slice_get, slice_index, slice_set, Some}
use Rattle.std.specs.List.{sum_by, count_by, AllWithin}
use Rattle.std.specs.List.Sorted.{IsSorted}
use Rattle.std.specs.Ordering.{nat_cmp, is_gt}
use Rattle.std.specs.declared.cmp.Ordering.TheVariants.{Greater}
use Rattle.std.proofs.lemmas.Bool.{cases_lt}
use Rattle.std.proofs.lemmas.Bool.Decides.{nat_tests}
use Rattle.std.proofs.lemmas.Cmp.{nat_cmp_total}
use Rattle.std.proofs.lemmas.List.{append-nil, length-map, length-take, length-replicate, get_or-replicate}
use Rattle.std.proofs.lemmas.List.{get_or-set_same, get_or-set_other, length-set}
use Rattle.std.proofs.lemmas.List.Sums.{sum_by-cons, sum_by_push, count_by-le-length}
use Rattle.document_bookmarks.specs.declared.bookmark_order.Bookmark.{Bookmark}
use Rattle.doc_parts.specs.declared.bookmark_print.Start.{Start}
use Rattle.doc_parts.specs.PrintedBookmarks.{bookmark_ends, end_place, bookmark_start, starts_of}
use Rattle.document_bookmarks.proofs.Public.{NoneBefore, Rises, order_counted, order_rises, in_order_sorted}
use Rattle.document_bookmarks.proofs.Public.{counted_here}
use Rattle.doc_parts.proofs.BookmarkBackLemmas.{take_next}

-- ---- counts

abbrev one_of : Bool → ℕ
one_of b = cond b 1 0

abbrev pub lesser_than : ℕ → ℕ → Bool
lesser_than to end = nat_lt end to

abbrev pub equal_to : ℕ → ℕ → Bool
equal_to to end = end == to

abbrev pub lesser_ends : List Bookmark → ℕ → ℕ
lesser_ends list to = count_by (λ (bookmark : Bookmark). nat_lt bookmark.to to) list

abbrev pub equal_ends : List Bookmark → ℕ → ℕ
equal_ends list to = count_by (λ (bookmark : Bookmark). bookmark.to == to) list

abbrev one_lesser : ℕ → Bookmark → ℕ
one_lesser to bookmark = cond (nat_lt bookmark.to to) 1 0

abbrev one_equal : ℕ → Bookmark → ℕ
one_equal to bookmark = cond (bookmark.to == to) 1 0

-- a sum over a map
pub sum_by-of_map : {A B : Type 0} (f : B → ℕ) (g : A → B) (xs : List A) →
    sum_by f (map g xs) ≡ sum_by (λ x. f (g x)) xs
sum_by-of_map f g [] = refl
sum_by-of_map f g (x ∷ xs) =
    omega (arith, sum_by-cons f (g x) (map g xs), sum_by-cons (λ x. f (g x)) x xs, sum_by-of_map f g xs)

-- counts of the sorted ends are those of the bookmarks
pub count_of_ends : (p : ℕ → Bool) (list : List Bookmark) →
    count_by p (bookmark_ends list) ≡ count_by (λ (bookmark : Bookmark). p bookmark.to) list
count_of_ends p list =
    order_counted nat_cmp (map (λ (bookmark : Bookmark). bookmark.to) list) (λ end. cond (p end) 1 0)
    ∙ sum_by-of_map (λ end. cond (p end) 1 0) (λ (bookmark : Bookmark). bookmark.to) list

lesser_or_equal : (to end : ℕ) → one_of (nat_lt end to) + one_of (end == to) ≤ 1
lesser_or_equal to end = grind (arith, nat_tests)

pub counts_within : (list : List Bookmark) (to : ℕ) → lesser_ends list to + equal_ends list to ≤ length list
counts_within [] to = omega arith
counts_within (b ∷ bs) to =
    omega (
      arith,
      sum_by-cons (one_lesser to) b bs,
      sum_by-cons (one_equal to) b bs,
      lesser_or_equal to b.to,
      counts_within bs to,
    )

lesser_both : (low high end : ℕ) → low < high →
    cond (nat_lt end low) 1 0 + cond (end == low) 1 0 ≤ cond (nat_lt end high) 1 0
lesser_both low high end h = grind (arith, nat_tests)

-- the equal ones of a lesser end are among the lesser ones
pub counts_below : (list : List Bookmark) (low high : ℕ) → low < high →
    lesser_ends list low + equal_ends list low ≤ lesser_ends list high
counts_below [] low high h = omega arith
counts_below (b ∷ bs) low high h =
    omega (
      arith,
      sum_by-cons (one_lesser low) b bs,
      sum_by-cons (one_equal low) b bs,
      sum_by-cons (one_lesser high) b bs,
      lesser_both low high b.to h,
      counts_below bs low high h,
    )

-- ends of which one is there have places of their own
pub places_differ : (list : List Bookmark) (one other : ℕ) → 0 < equal_ends list one → 0 < equal_ends list other →
    one ≢ other → lesser_ends list one ≢ lesser_ends list other
places_differ list one other some more differ same = elim (cases_lt one other) [
  | inl low ↦ omega (arith, counts_below list one other low, some, same)
  | inr high ↦ elim (cases_lt other one) [
    | inl low ↦ omega (arith, counts_below list other one low, more, same)
    | inr upto ↦ differ (omega arith)
  ]
]

-- ---- what is passed

-- beside the first place of each end is how many equal ones there are among the bookmarks before
pub record ArePassed (list before : List Bookmark) (passed : List ℕ) : Type 0 where
  pub len : length passed ≡ length list
  pub each :
      (to : ℕ) → 0 < equal_ends list to → slice_index passed (lesser_ends list to) ≡ equal_ends before to

-- ---- the place where the lesser ones end

pub point_is_count : {A : Type 0} (p : A → Bool) (xs : List A) (i : ℕ) → i ≤ length xs →
    AllWithin (λ x. p x ≡ true) xs 0 i → AllWithin (λ x. p x ≡ false) xs i (length xs) → count_by p xs ≡ i
point_is_count p [] i within passes fails = omega (arith, within)
point_is_count p (x ∷ xs) zero within passes fails =
    let one : one_of (p x) ≡ 0 = ap one_of (fails zero x (omega arith) (omega arith)) in
    let rest = point_is_count p xs zero (omega arith) (λ k d low high. absurd (omega (arith, high)))
    (λ k d low high. fails (suc k) d (omega arith) (omega (arith, high))) in
    omega (arith, sum_by-cons (λ x. cond (p x) 1 0) x xs, one, rest)
point_is_count p (x ∷ xs) (suc i) within passes fails =
    let one : one_of (p x) ≡ 1 = ap one_of (passes zero x (omega arith) (omega arith)) in
    let rest = point_is_count p xs i (omega (arith, within))
    (λ k d low high. passes (suc k) d (omega arith) (omega (arith, high)))
    (λ k d low high. fails (suc k) d (omega (arith, low)) (omega (arith, high))) in
    omega (arith, sum_by-cons (λ x. cond (p x) 1 0) x xs, one, rest)

-- ---- one start more

-- a bookmark of the list is among those of its end
equal_itself : (end : ℕ) → one_of (end == end) ≡ 1
equal_itself end = grind (arith, nat_tests)

pub equal_here : (list : List Bookmark) (k : ℕ) (b : Bookmark) → slice_get list k ≡ Some b → 0 < equal_ends list b.to
equal_here list k b here = omega (arith, counted_here (one_equal b.to) list k b here, equal_itself b.to)

-- the first place of an end is one of the list
pub first_within : (list : List Bookmark) (to : ℕ) → 0 < equal_ends list to → lesser_ends list to < length list
first_within list to some = omega (arith, counts_within list to, some)

differ_apart : (to end : ℕ) → to ≢ end → one_of (end == to) ≡ 0
differ_apart to end differ = grind (arith, nat_tests)

-- the end of another bookmark stays as it is
other_end : (list before : List Bookmark) (b : Bookmark) (passed : List ℕ) → ArePassed list before passed →
    0 < equal_ends list b.to → (to : ℕ) → 0 < equal_ends list to → to ≢ b.to →
    slice_index (slice_set passed (lesser_ends list b.to) (slice_index passed (lesser_ends list b.to) + 1))
    (lesser_ends list to) ≡ equal_ends (before ++ b ∷ []) to
other_end list before b passed are some to there differ =
    get_or-set_other passed (lesser_ends list b.to) (lesser_ends list to)
    (slice_index passed (lesser_ends list b.to) + 1) 0 (places_differ list to b.to there some differ)
    ∙ omega (arith, are.each to there, sum_by_push (one_equal to) before b, differ_apart to b.to differ)

-- the end of one more bookmark is passed
pub passed_more : (list before : List Bookmark) (b : Bookmark) (passed : List ℕ) → ArePassed list before passed →
    0 < equal_ends list b.to → ArePassed list (before ++ b ∷ [])
    (slice_set passed (lesser_ends list b.to) (slice_index passed (lesser_ends list b.to) + 1))
passed_more list before b passed are some =
    let first : ℕ = lesser_ends list b.to in
    let value : ℕ = slice_index passed first + 1 in
    let within : first < length passed = omega (arith, are.len, first_within list b.to some) in
    record {
      len = length-set passed first value ∙ are.len;
      each = λ to there. elim (cases_lt to b.to) [
        | inl low ↦ other_end list before b passed are some to there (λ e. omega (arith, e, low))
        | inr high ↦ elim (cases_lt b.to to) [
          | inl over ↦ other_end list before b passed are some to there (λ e. omega (arith, e, over))
          | inr upto ↦
              let e : b.to ≡ to = omega arith in
              subst (λ (n : ℕ). slice_index (slice_set passed first value) (lesser_ends list n)
              ≡ equal_ends (before ++ b ∷ []) n) e
              (get_or-set_same passed first value 0 within ∙ omega (
                arith,
                are.each b.to some,
                sum_by_push (one_equal b.to) before b,
                equal_itself b.to,
              ))
        ]
      ];
    }

-- the starts of one bookmark more
pub starts_of-push : (list before xs : List Bookmark) (b : Bookmark) →
    starts_of list before (xs ++ b ∷ []) ≡ starts_of list before xs ++ bookmark_start list (before ++ xs) b ∷ []
unfolding starts_of
starts_of-push list before [] b = rw (append-nil before) refl
starts_of-push list before (x ∷ xs) b =
    ap (λ (rest : List Start). bookmark_start list before x ∷ rest)
    (starts_of-push list (before ++ x ∷ []) xs b
    ∙ ap (λ (zs : List Bookmark). starts_of list (before ++ x ∷ []) xs ++ bookmark_start list zs b ∷ [])
    (append_assoc before (x ∷ []) xs))

-- ---- what is at the place of an end

not_above : (y z : ℕ) → is_gt (nat_cmp y z) ≡ false → y ≤ z
not_above y z h = elim (cases_lt z y) [
  | inl low ↦
      let greater : nat_cmp y z ≡ Greater = grind (arith, nat_tests) in
      let above : is_gt (nat_cmp y z) ≡ true = ap is_gt greater in
      absurd (cc (above, h))
  | inr high ↦ high
]

not_less : (z v : ℕ) → v ≤ z → one_of (nat_lt z v) ≡ 0
not_less z v h = grind (arith, nat_tests)

is_less : (z v : ℕ) → z < v → one_of (nat_lt z v) ≡ 1
is_less z v h = grind (arith, nat_tests)

none_lesser : (v y : ℕ) (ys : List ℕ) → v ≤ y → NoneBefore nat_cmp y ys → count_by (lesser_than v) ys ≡ 0
none_lesser v y [] upto none = refl
none_lesser v y (z ∷ zs) upto none =
    let above : y ≤ z = not_above y z none.0 in
    omega (
      arith,
      sum_by-cons (λ end. cond (nat_lt end v) 1 0) z zs,
      not_less z v (omega arith),
      none_lesser v y zs upto none.1,
    )

none_equal : (v y : ℕ) (ys : List ℕ) → v < y → NoneBefore nat_cmp y ys → count_by (equal_to v) ys ≡ 0
none_equal v y [] over none = refl
none_equal v y (z ∷ zs) over none =
    let above : y ≤ z = not_above y z none.0 in
    omega (
      arith,
      sum_by-cons (λ end. cond (end == v) 1 0) z zs,
      differ_apart v z (λ e. omega (arith, e, above, over)),
      none_equal v y zs over none.1,
    )

place_holds : (v : ℕ) (ys : List ℕ) (j : ℕ) → Rises nat_cmp ys → count_by (lesser_than v) ys ≤ j →
    j < count_by (lesser_than v) ys + count_by (equal_to v) ys → slice_index ys j ≡ v
place_holds v [] j up low high = absurd (omega (arith, low, high))
place_holds v (y ∷ ys) zero up low high = elim (cases_lt y v) [
  | inl less ↦ absurd (omega (
    arith,
    sum_by-cons (λ end. cond (nat_lt end v) 1 0) y ys,
    is_less y v less,
    low,
  ))
  | inr upto ↦ elim (cases_lt v y) [
    | inl over ↦ absurd (omega (
      arith,
      sum_by-cons (λ end. cond (nat_lt end v) 1 0) y ys,
      sum_by-cons (λ end. cond (end == v) 1 0) y ys,
      not_less y v upto,
      differ_apart v y (λ e. omega (arith, e, over)),
      none_lesser v y ys upto up.0,
      none_equal v y ys over up.0,
      high,
    ))
    | inr same ↦ omega arith
  ]
]
place_holds v (y ∷ ys) (suc j) up low high = elim (cases_lt y v) [
  | inl less ↦
      let lesser = sum_by-cons (λ end. cond (nat_lt end v) 1 0) y ys in
      let equal = sum_by-cons (λ end. cond (end == v) 1 0) y ys in
      let one = is_less y v less in
      let none = differ_apart v y (λ e. omega (arith, e, less)) in
      place_holds v ys j up.1 (omega (arith, lesser, one, low)) (omega (arith, lesser, equal, one, none, high))
  | inr upto ↦ elim (cases_lt v y) [
    | inl over ↦ absurd (omega (
      arith,
      sum_by-cons (λ end. cond (nat_lt end v) 1 0) y ys,
      sum_by-cons (λ end. cond (end == v) 1 0) y ys,
      not_less y v upto,
      differ_apart v y (λ e. omega (arith, e, over)),
      none_lesser v y ys upto up.0,
      none_equal v y ys over up.0,
      high,
    ))
    | inr same ↦
        let e : y ≡ v = omega arith in
        let lesser = sum_by-cons (λ end. cond (nat_lt end v) 1 0) y ys in
        let equal = sum_by-cons (λ end. cond (end == v) 1 0) y ys in
        let none = none_lesser v y ys upto up.0 in
        let one : one_of (y == v) ≡ 1 = ap (λ (n : ℕ). one_of (y == n)) (sym e) ∙ equal_itself y in
        place_holds v ys j up.1 (omega (arith, none))
        (omega (arith, lesser, equal, one, none, not_less y v upto, high))
  ]
]

-- the end of a bookmark is at its place
pub end_there : (list : List Bookmark) (k : ℕ) (b : Bookmark) → slice_get list k ≡ Some b →
    slice_index (bookmark_ends list) (end_place list (take k list) b.to) ≡ b.to
end_there list k b here =
    let lesser : count_by (lesser_than b.to) (bookmark_ends list) ≡ lesser_ends list b.to =
    count_of_ends (lesser_than b.to) list in
    let equal : count_by (equal_to b.to) (bookmark_ends list) ≡ equal_ends list b.to =
    count_of_ends (equal_to b.to) list in
    place_holds b.to (bookmark_ends list) (end_place list (take k list) b.to)
    (order_rises nat_cmp nat_cmp_total (map (λ (bookmark : Bookmark). bookmark.to) list))
    (omega (arith, lesser))
    (omega (arith, lesser, equal, counted_here (one_equal b.to) list k b here, equal_itself b.to))

pub end_within : (list : List Bookmark) (k : ℕ) (b : Bookmark) → slice_get list k ≡ Some b →
    end_place list (take k list) b.to < length list
end_within list k b here =
    omega (
      arith,
      counts_within list b.to,
      counted_here (one_equal b.to) list k b here,
      equal_itself b.to,
    )

all_counted : {A : Type 0} (xs : List A) → sum_by (λ x. 1) xs ≡ length xs
all_counted [] = refl
all_counted (x ∷ xs) = omega (arith, sum_by-cons (λ x. 1) x xs, all_counted xs)

pub length-ends : (list : List Bookmark) → length (bookmark_ends list) ≡ length list
length-ends list =
    let tos : List ℕ = map (λ (bookmark : Bookmark). bookmark.to) list in
    omega (
      arith,
      all_counted (bookmark_ends list),
      order_counted nat_cmp tos (λ end. 1),
      all_counted tos,
      length-map list (λ (bookmark : Bookmark). bookmark.to),
    )

-- ---- the loop over the starts

-- before the first bookmark nothing is passed
pub none_passed : (list : List Bookmark) (passed : List ℕ) → passed ≡ replicate (length list) 0 →
    ArePassed list [] passed
none_passed list passed e = rw e (record {
  len = length-replicate (length list) 0;
  each = λ to some. get_or-replicate (length list) (lesser_ends list to) 0 0 (first_within list to some);
})

-- what the place of one more end needs
pub record HasRoom (first : ℕ) (passed : List ℕ) : Type 0 where
  pub within : first < length passed
  pub few : first + slice_index passed first + 1 < 2 ^ 16

pub room_there : (list : List Bookmark) (k : ℕ) (b : Bookmark) (passed : List ℕ) (first : ℕ) →
    length list ≤ 16000 → slice_get list k ≡ Some b → ArePassed list (take k list) passed →
    first ≡ lesser_ends list b.to → HasRoom first passed
room_there list k b passed first many here are e =
    let some : 0 < equal_ends list b.to = equal_here list k b here in
    let count : slice_index passed (lesser_ends list b.to) ≡ equal_ends (take k list) b.to = are.each b.to some in
    let few : equal_ends (take k list) b.to ≤ length (take k list) =
    count_by-le-length (λ (bookmark : Bookmark). bookmark.to == b.to) (take k list) in
    let own : slice_index passed first ≡ slice_index passed (lesser_ends list b.to) = ap (slice_index passed) e in
    record {
      within = omega (arith, e, are.len, first_within list b.to some);
      few = omega (arith, e, own, count, few, length-take k list, first_within list b.to some);
    }

-- one start more
pub start_more : (list : List Bookmark) (k : ℕ) (b : Bookmark) (passed : List ℕ) (first index : ℕ) →
    slice_get list k ≡ Some b → ArePassed list (take k list) passed → first ≡ lesser_ends list b.to →
    index ≡ first + slice_index passed first →
    (starts_of list [] (take (k + 1) list)
    ≡ starts_of list [] (take k list) ++ record { cp = b.from; index = index; flags = b.flags } ∷ [])
    × ArePassed list (take (k + 1) list) (slice_set passed first (slice_index passed first + 1))
start_more list k b passed first index here are e place =
    let some : 0 < equal_ends list b.to = equal_here list k b here in
    let next : take (k + 1) list ≡ take k list ++ b ∷ [] = rw (add-one k) (take_next list k b here) in
    let own : slice_index passed first ≡ equal_ends (take k list) b.to =
    ap (slice_index passed) e ∙ are.each b.to some in
    let at : end_place list (take k list) b.to ≡ index = omega (arith, e, own, place) in
    let after = passed_more list (take k list) b passed are some in (
      ap (starts_of list []) next
          ∙ (starts_of-push list [] (take k list) b
          ∙ ap (λ (n : ℕ). starts_of list [] (take k list) ++ record { cp = b.from; index = n; flags = b.flags } ∷ [])
          at),
      rw next (subst (λ (n : ℕ). ArePassed list (take k list ++ b ∷ []) (slice_set passed n (slice_index passed n + 1)))
          (sym e) after),
    )

-- the ends of a list are sorted, and count as the bookmarks do
pub ends_sorted : (list : List Bookmark) → IsSorted nat_cmp (bookmark_ends list)
ends_sorted list = in_order_sorted nat_cmp nat_cmp_total (map (λ (bookmark : Bookmark). bookmark.to) list)

pub no_starts : (list : List Bookmark) → starts_of list [] [] ≡ []
unfolding starts_of
no_starts list = refl
