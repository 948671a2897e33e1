-- The names of bookmarks: what keeps them apart, and where the first one is that is there twice.
use Rattle.std.proofs.Common.{◌≡◌, ◌∙◌, inl, inr, refl, sym, ap, subst, ℕ, zero, suc, ◌+◌, ◌-◌, ◌<◌, ◌≤◌, ◌^◌, Bool}
use Rattle.std.proofs.Common.{true}
use Rattle.std.proofs.Common.{false, cond, not, ◌||◌, List, [], ◌∷◌, ◌++◌, length, map, take, drop, get_or, set, Some, arith}
use Rattle.std.proofs.Common.{Ordering}
use Rattle.std.specs.Prelude.{All, slice_get, slice_range, IsTrue}
use Rattle.std.proofs.Math.Seq.{take-length}
use Rattle.std.specs.Borrow.{Bor}
use Rattle.std.specs.BTreeSet.{BTreeSet, contains, Updates}
use Rattle.std.specs.List.{sum_by, count_by, list_any, filter, splice}
use Rattle.std.specs.Ordering.{nat_cmp, is_eq}
use Rattle.std.specs.Cmp.Lexicographic.{slice_cmp}
use Rattle.std.specs.declared.cmp.Ordering.TheVariants.{Less, Equal, Greater}
use Rattle.std.specs.FinMap.{nat_cmp-IsAntisymmetric, slice_cmp-IsAntisymmetric}
use Rattle.std.proofs.lemmas.Bool.{cases_lt, cases_Bool}
use Rattle.std.proofs.lemmas.Cmp.{nat_list_cmp_total, tied_itself}
use Rattle.std.proofs.lemmas.List.Elements.{All-append, All-take, All-drop, All-set, All-filter, All-map, All-push}
use Rattle.std.proofs.lemmas.List.Filters.{sum_by-filter_both}
use Rattle.std.proofs.lemmas.List.{take_more}
use Rattle.std.proofs.lemmas.List.Folds.{list_any_more}
use Rattle.std.proofs.lemmas.List.Sums.{sum_by-cons, sum_by_push, sum_by-take-le, sum_by-take-drop}
use Rattle.std.proofs.lemmas.Option.{same_Some}
use Rattle.doc_bits.specs.Rules.{Nowhere, IsLeast}
use Rattle.doc_bits.proofs.Public.{there_is}
use Rattle.document_bookmarks.specs.declared.bookmark_order.Bookmark.{Bookmark}
use Rattle.document_bookmarks.specs.Order.{put_in, in_order}
use Rattle.document_bookmarks.specs.Bookmarks.{bookmark_cmp, HasFileNumbers, end_moved, moved_bookmark, moved_bookmarks}
use Rattle.document_bookmarks.specs.Names.{is_named, AreApart, IsBookmarkList, HasSameName, NamesDiffer}
use Rattle.document_bookmarks.proofs.OrderLemmas.{order_counted, put_counted, all_put, all_in_order}
use Rattle.document_bookmarks.proofs.MoveLemmas.{moved_within}

-- ---- one name

eq_is : (o : Ordering) → is_eq o ≡ true → o ≡ Equal
eq_is Less h = absurd (cc h)
eq_is Equal h = refl
eq_is Greater h = absurd (cc h)

pub named_is : (name : List ℕ) (bookmark : Bookmark) → is_named name bookmark ≡ true → bookmark.name ≡ name
named_is name bookmark h =
    slice_cmp-IsAntisymmetric nat_cmp-IsAntisymmetric bookmark.name name
    (eq_is (slice_cmp nat_cmp bookmark.name name) h)

pub named_itself : (bookmark : Bookmark) → is_named bookmark.name bookmark ≡ true
named_itself bookmark = ap is_eq (tied_itself nat_list_cmp_total bookmark.name)

abbrev pub one_named : List ℕ → Bookmark → ℕ
one_named name bookmark = cond (is_named name bookmark) 1 0

-- ---- names that differ

one_more : (xs : List Bookmark) (x : Bookmark) (name : List ℕ) (b : Bool) → is_named name x ≡ b →
    count_by (is_named name) xs ≤ 1 → count_by (is_named x.name) xs ≡ 0 → count_by (is_named name) (xs ++ x ∷ []) ≤ 1
one_more xs x name true is few none =
    let same : count_by (is_named name) xs ≡ 0 =
    subst (λ (n : List ℕ). count_by (is_named n) xs ≡ 0) (named_is name x is) none in
    let one : one_named name x ≡ 1 = ap (λ (b : Bool). cond b 1 0) is in
    omega (arith, sum_by_push (one_named name) xs x, same, one)
one_more xs x name false is few none =
    let one : one_named name x ≡ 0 = ap (λ (b : Bool). cond b 1 0) is in
    omega (arith, sum_by_push (one_named name) xs x, few, one)

pub apart_more : (xs : List Bookmark) (x : Bookmark) → AreApart xs → count_by (is_named x.name) xs ≡ 0 →
    AreApart (xs ++ x ∷ [])
apart_more xs x apart none name = one_more xs x name (is_named name x) refl (apart name) none

pub apart_less : (xs ys : List Bookmark) → ((f : Bookmark → ℕ) → sum_by f ys ≤ sum_by f xs) → AreApart xs → AreApart ys
apart_less xs ys less apart name = omega (arith, less (one_named name), apart name)

range_less : (xs : List Bookmark) (from to : ℕ) (f : Bookmark → ℕ) → sum_by f (slice_range xs from to) ≤ sum_by f xs
range_less xs from to f =
    omega (arith, sum_by-take-le f (drop from xs) (to - from), sum_by-take-drop f xs from)

filter_less : (xs : List Bookmark) (p : Bookmark → Bool) (f : Bookmark → ℕ) → sum_by f (filter p xs) ≤ sum_by f xs
filter_less xs p f = omega (arith, sum_by-filter_both p (λ x. not (p x)) (λ x. refl) f xs)

moved_named : (from to count : ℕ) (name : List ℕ) (xs : List Bookmark) →
    count_by (is_named name) (map (moved_bookmark from to count) xs) ≡ count_by (is_named name) xs
moved_named from to count name [] = refl
moved_named from to count name (x ∷ xs) =
    let move : Bookmark → Bookmark = moved_bookmark from to count in
    omega (
      arith,
      sum_by-cons (one_named name) (move x) (map move xs),
      sum_by-cons (one_named name) x xs,
      moved_named from to count name xs,
    )

moved_apart : (from to count : ℕ) (xs : List Bookmark) → AreApart xs → AreApart (moved_bookmarks from to count xs)
moved_apart from to count xs apart name =
    let move : Bookmark → Bookmark = moved_bookmark from to count in
    omega (
      arith,
      order_counted bookmark_cmp (map move xs) (one_named name),
      moved_named from to count name xs,
      apart name,
    )

-- ---- what the calls keep

end_small : (from to count len p : ℕ) → from ≤ to → to ≤ len → len + count < 2 ^ 32 + (to - from) → p ≤ len →
    end_moved from to count p < 2 ^ 32
end_small from to count len p ordered within few low =
    let end = moved_within from to count len p ordered within low in omega arith

pub list_moved : (from to count len : ℕ) (xs : List Bookmark) (apart : Bool) → from ≤ to → to ≤ len →
    len + count < 2 ^ 32 + (to - from) → All (λ b. b.from ≤ len) xs → All (λ b. b.to ≤ len) xs →
    IsBookmarkList xs apart → IsBookmarkList (moved_bookmarks from to count xs) apart
list_moved from to count len xs apart ordered within few starts ends is =
    let move : Bookmark → Bookmark = moved_bookmark from to count in
    let numbers : All (λ b. HasFileNumbers (move b)) xs = λ k d low. record {
      units = (is.numbers k d low).units;
      from = end_small from to count len (get_or xs k d).from ordered within few (starts k d low);
      to = end_small from to count len (get_or xs k d).to ordered within few (ends k d low);
      flags = (is.numbers k d low).flags;
    } in
    record {
      numbers = all_in_order HasFileNumbers bookmark_cmp (map move xs) (All-map HasFileNumbers move xs numbers);
      differ = λ known. moved_apart from to count xs (is.differ known);
    }

pub list_sorted : (xs : List Bookmark) (apart : Bool) → IsBookmarkList xs apart →
    IsBookmarkList (in_order bookmark_cmp xs) apart
list_sorted xs apart is = record {
  numbers = all_in_order HasFileNumbers bookmark_cmp xs is.numbers;
  differ = λ known. apart_less xs (in_order bookmark_cmp xs)
      (λ f. let same = order_counted bookmark_cmp xs f in omega (arith, same))
      (is.differ known);
}

pub list_range : (xs : List Bookmark) (from to : ℕ) (apart : Bool) → IsBookmarkList xs apart →
    IsBookmarkList (slice_range xs from to) apart
list_range xs from to apart is = record {
  numbers = All-take HasFileNumbers (to - from) (drop from xs) (All-drop HasFileNumbers from xs is.numbers);
  differ = λ known. apart_less xs (slice_range xs from to) (range_less xs from to) (is.differ known);
}

pub list_filtered : (xs : List Bookmark) (p : Bookmark → Bool) (apart : Bool) → IsBookmarkList xs apart →
    IsBookmarkList (filter p xs) apart
list_filtered xs p apart is = record {
  numbers = All-filter p HasFileNumbers xs is.numbers;
  differ = λ known. apart_less xs (filter p xs) (filter_less xs p) (is.differ known);
}

pub list_spliced : (xs fresh : List Bookmark) (from to : ℕ) (apart other : Bool) → IsBookmarkList xs apart →
    IsBookmarkList fresh other → IsBookmarkList (splice xs from to fresh) false
list_spliced xs fresh from to apart other is new = record {
  numbers = All-append HasFileNumbers (take from xs) (fresh ++ drop to xs) (All-take HasFileNumbers from xs is.numbers)
      (All-append HasFileNumbers fresh (drop to xs) new.numbers (All-drop HasFileNumbers to xs is.numbers));
  differ = λ known. absurd (cc known);
}

pub list_set : (xs : List Bookmark) (i : ℕ) (x : Bookmark) (apart : Bool) → HasFileNumbers x →
    IsBookmarkList xs apart → IsBookmarkList (set xs i x) false
list_set xs i x apart one is = record {
  numbers = All-set HasFileNumbers xs i x one is.numbers;
  differ = λ known. absurd (cc known);
}

-- the numbers of a bookmark, whose units were looked at
pub numbers_of : (bookmark : Bookmark) (units : List ℕ) → units ≡ bookmark.name → All (λ unit. unit < 2 ^ 16) units →
    bookmark.from < 2 ^ 32 → bookmark.to < 2 ^ 32 → bookmark.flags < 2 ^ 16 → HasFileNumbers bookmark
numbers_of bookmark units same small from to flags = record {
  units = subst (All (λ unit. unit < 2 ^ 16)) same small;
  from = from;
  to = to;
  flags = flags;
}

pub list_more : (xs ys : List Bookmark) (x : Bookmark) (apart known : Bool) → ys ≡ xs ++ x ∷ [] →
    HasFileNumbers x → IsBookmarkList xs apart →
    (IsTrue known → IsTrue apart × (count_by (is_named x.name) xs ≡ 0)) → IsBookmarkList ys known
list_more xs ys x apart known more one is looked = rw more (record {
  numbers = All-push HasFileNumbers xs x is.numbers one;
  differ = λ h. let both = looked h in apart_more xs x (is.differ both.0) both.1;
})

pub list_put : (xs ys : List Bookmark) (x : Bookmark) (apart known : Bool) → ys ≡ put_in bookmark_cmp x xs →
    HasFileNumbers x → IsBookmarkList xs apart →
    (IsTrue known → IsTrue apart × (count_by (is_named x.name) xs ≡ 0)) → IsBookmarkList ys known
list_put xs ys x apart known put one is looked = rw put (record {
  numbers = all_put HasFileNumbers bookmark_cmp x xs one is.numbers;
  differ = λ h.
      let both = looked h in
      apart_less (xs ++ x ∷ []) (put_in bookmark_cmp x xs)
      (λ f. omega (arith, put_counted bookmark_cmp x xs f, sum_by-cons f x xs, sum_by_push f xs x))
      (apart_more xs x (is.differ both.0) both.1);
})

pub list_copied : (xs ys : List Bookmark) (from to : ℕ) (apart : Bool) → ys ≡ slice_range xs from to →
    IsBookmarkList xs apart → IsBookmarkList ys apart
list_copied xs ys from to apart same is = rw same (list_range xs from to apart is)

-- ---- the first name that is there twice

pub counted_here : (f : Bookmark → ℕ) (xs : List Bookmark) (k : ℕ) (x : Bookmark) → slice_get xs k ≡ Some x →
    sum_by f (take k xs) + f x ≤ sum_by f xs
counted_here f [] k x here = absurd (cc here)
counted_here f (y ∷ ys) zero x here =
    let same : f y ≡ f x = ap f (same_Some y x here) in omega (arith, sum_by-cons f y ys, same)
counted_here f (y ∷ ys) (suc k) x here =
    omega (arith, sum_by-cons f y ys, sum_by-cons f y (take k ys), counted_here f ys k x here)

-- the same up to a later place
counted_upto : (f : Bookmark → ℕ) (xs : List Bookmark) (k n : ℕ) (x : Bookmark) → slice_get xs k ≡ Some x → k < n →
    sum_by f (take k xs) + f x ≤ sum_by f (take n xs)
counted_upto f [] k n x here low = absurd (cc here)
counted_upto f (y ∷ ys) k zero x here low = absurd (omega (arith, low))
counted_upto f (y ∷ ys) zero (suc n) x here low =
    let same : f y ≡ f x = ap f (same_Some y x here) in omega (arith, sum_by-cons f y (take n ys), same)
counted_upto f (y ∷ ys) (suc k) (suc n) x here low =
    omega (
      arith,
      sum_by-cons f y (take k ys),
      sum_by-cons f y (take n ys),
      counted_upto f ys k n x here (omega (arith, low)),
    )

counted_itself : (x : Bookmark) → one_named x.name x ≡ 1
counted_itself x = ap (λ (b : Bool). cond b 1 0) (named_itself x)

pub apart_nowhere : (xs : List Bookmark) → AreApart xs → Nowhere (HasSameName xs)
apart_nowhere xs apart p w =
    omega (
      arith,
      counted_here (one_named w.bookmark.name) xs w.entry w.bookmark w.here,
      apart w.bookmark.name,
      w.earlier,
      counted_itself w.bookmark,
    )

-- where names differ, none of them is there twice
twice_none : (xs : List Bookmark) (k n : ℕ) (x : Bookmark) → slice_get xs k ≡ Some x → k < n → AreApart (take n xs) →
    0 < count_by (is_named x.name) (take k xs) → ⊥
twice_none xs k n x here low apart earlier =
    omega (
      arith,
      counted_upto (one_named x.name) xs k n x here low,
      apart x.name,
      earlier,
      counted_itself x,
    )

-- what is at a place
pub there_at : (xs : List Bookmark) (k : ℕ) (x : Bookmark) → slice_get xs k ≡ Some x →
    (k < length xs) × ((d : Bookmark) → get_or xs k d ≡ x)
there_at [] k x here = absurd (cc here)
there_at (y ∷ ys) zero x here = (omega arith, λ d. same_Some y x here)
there_at (y ∷ ys) (suc k) x here = let rest = there_at ys k x here in (omega (arith, rest.0), rest.1)

-- there is one first bookmark whose name an earlier one has
begins_first : (xs : List Bookmark) (i place : ℕ) (x : Bookmark) → slice_get xs i ≡ Some x → AreApart (take i xs) →
    0 < count_by (is_named x.name) (take i xs) → HasSameName xs place → x.from ≤ place
begins_first xs i place x here apart earlier w = elim (cases_lt w.entry i) [
  | inl low ↦ absurd (twice_none xs w.entry i w.bookmark w.here low apart w.earlier)
  | inr upto ↦ elim (cases_lt i w.entry) [
    | inl high ↦ absurd (twice_none xs i w.entry x here high w.first earlier)
    | inr least ↦
        let at : w.entry ≡ i = omega (arith, upto, least) in
        let is : w.bookmark ≡ x = same_Some w.bookmark x (sym w.here ∙ (ap (slice_get xs) at ∙ here)) in
        let from : w.bookmark.from ≡ x.from = ap (λ (b : Bookmark). b.from) is in
        omega (arith, from, w.begins)
  ]
]

pub first_same : (xs : List Bookmark) (i : ℕ) (x : Bookmark) → slice_get xs i ≡ Some x → AreApart (take i xs) →
    0 < count_by (is_named x.name) (take i xs) → IsLeast (λ a b. a ≤ b) (HasSameName xs) x.from
first_same xs i x here apart earlier = record {
  broken = record { entry = i; bookmark = x; here = here; first = apart; earlier = earlier; begins = refl };
  least = λ place w. begins_first xs i place x here apart earlier w;
}

-- one more whose name is none of those before it
pub apart_next : (xs : List Bookmark) (i : ℕ) (x : Bookmark) → slice_get xs i ≡ Some x → AreApart (take i xs) →
    count_by (is_named x.name) (take i xs) ≡ 0 → AreApart (take (i + 1) xs)
apart_next xs i x here apart none =
    let there = there_at xs i x here in
    subst AreApart
    (sym (take_more xs i x there.0 ∙ ap (λ (b : Bookmark). take i xs ++ b ∷ []) (there.1 x)))
    (apart_more (take i xs) x apart none)

-- no bookmark has the name of an earlier one, so the names differ
apart_upto : (xs : List Bookmark) (n : ℕ) → Nowhere (HasSameName xs) → n ≤ length xs → AreApart (take n xs)
apart_upto xs zero none within = λ name. omega arith
apart_upto xs (suc n) none within =
    let found = there_is xs n (omega (arith, within)) in
    let x : Bookmark = found.0 in
    let apart = apart_upto xs n none (omega (arith, within)) in
    let new : count_by (is_named x.name) (take n xs) ≡ 0 =
    elim (cases_lt 0 (count_by (is_named x.name) (take n xs))) [
      | inl earlier ↦ absurd (none x.from (first_same xs n x found.1 apart earlier).broken)
      | inr zero_here ↦ omega (arith, zero_here)
    ] in
    subst (λ (k : ℕ). AreApart (take k xs)) (let next : n + 1 ≡ suc n = omega arith in next)
    (apart_next xs n x found.1 apart new)

pub nowhere_apart : (xs : List Bookmark) → Nowhere (HasSameName xs) → AreApart xs
nowhere_apart xs none = subst AreApart (take-length xs) (apart_upto xs (length xs) none (omega arith))

pub differ_exactly : NamesDiffer
differ_exactly xs = (nowhere_apart xs, apart_nowhere xs)

-- ---- the names so far, as a set of them answers

abbrev counted_as : (Bookmark → Bool) → Bookmark → ℕ
counted_as p x = cond (p x) 1 0

any_counted : (p : Bookmark → Bool) (xs : List Bookmark) → list_any p xs ≡ true → 0 < count_by p xs
any_counted p [] some = absurd (cc some)
any_counted p (x ∷ xs) some = elim (cases_Bool (p x)) [
  | inl here ↦
      let one : counted_as p x ≡ 1 = ap (λ (b : Bool). cond b 1 0) here in
      omega (arith, one, sum_by-cons (counted_as p) x xs)
  | inr other ↦
      let rest : list_any p xs ≡ true = sym (ap (λ (b : Bool). b || list_any p xs) other) ∙ some in
      omega (arith, any_counted p xs rest, sum_by-cons (counted_as p) x xs)
]

none_counted : (p : Bookmark → Bool) (xs : List Bookmark) → list_any p xs ≡ false → count_by p xs ≡ 0
none_counted p [] none = refl
none_counted p (x ∷ xs) none = elim (cases_Bool (p x)) [
  | inl here ↦ absurd (cc (none, ap (λ (b : Bool). b || list_any p xs) here))
  | inr other ↦
      let rest : list_any p xs ≡ false = sym (ap (λ (b : Bool). b || list_any p xs) other) ∙ none in
      let zero_here : counted_as p x ≡ 0 = ap (λ (b : Bool). cond b 1 0) other in
      omega (arith, zero_here, none_counted p xs rest, sum_by-cons (counted_as p) x xs)
]

-- the order of names as they are lent
abbrev pub lent_cmp : Bor (List ℕ) → Bor (List ℕ) → Ordering
lent_cmp one other = slice_cmp nat_cmp one.now other.now

-- the set has the names of these bookmarks, which differ
pub record HasNames (names : BTreeSet (Bor (List ℕ))) (list : List Bookmark) : Type 0 where
  pub known : (name : Bor (List ℕ)) → contains lent_cmp names name ≡ list_any (is_named name.now) list
  pub apart : AreApart list

pub no_names : (names : BTreeSet (Bor (List ℕ))) (xs : List Bookmark) → names.keys ≡ [] → HasNames names (take 0 xs)
no_names names xs empty = record {
  known = λ name. ap (λ (keys : List (Bor (List ℕ))). list_any (λ key. is_eq (lent_cmp name key)) keys) empty;
  apart = λ name. omega arith;
}

turned : (a b : Bool) → not a ≡ b → a ≡ not b
turned true b is = ap not is
turned false b is = ap not is

either : (a b : Bool) → cond b true a ≡ (a || b)
either true true = refl
either true false = refl
either false true = refl
either false false = refl

-- what a set answered of a name that is put into it
pub name_twice : (names : BTreeSet (Bor (List ℕ))) (xs : List Bookmark) (i : ℕ) (x : Bookmark) (name : Bor (List ℕ))
    (new : Bool) → slice_get xs i ≡ Some x → name.now ≡ x.name → HasNames names (take i xs) →
    new ≡ not (contains lent_cmp names name) → new ≡ false → IsLeast (λ a b. a ≤ b) (HasSameName xs) x.from
name_twice names xs i x name new here is has said old =
    let there : list_any (is_named name.now) (take i xs) ≡ true =
    sym (has.known name) ∙ turned (contains lent_cmp names name) false (sym said ∙ old) in
    first_same xs i x here has.apart (any_counted (is_named x.name) (take i xs)
    (subst (λ (n : List ℕ). list_any (is_named n) (take i xs) ≡ true) is there))

pub name_more : (names more : BTreeSet (Bor (List ℕ))) (xs : List Bookmark) (i : ℕ) (x : Bookmark)
    (name : Bor (List ℕ)) (new : Bool) → slice_get xs i ≡ Some x → name.now ≡ x.name → HasNames names (take i xs) →
    new ≡ not (contains lent_cmp names name) → new ≡ true → Updates lent_cmp names more name true →
    HasNames more (take (i + 1) xs)
name_more names more xs i x name new here is has said fresh put =
    let there = there_at xs i x here in
    let none : list_any (is_named name.now) (take i xs) ≡ false =
    sym (has.known name) ∙ turned (contains lent_cmp names name) true (sym said ∙ fresh) in
    record {
      known = λ q.
          let test : is_eq (slice_cmp nat_cmp name.now q.now) ≡ is_named q.now (get_or xs i x) =
          ap (λ (n : List ℕ). is_eq (slice_cmp nat_cmp n q.now)) is
          ∙ ap (λ (b : Bookmark). is_named q.now b) (sym (there.1 x)) in
          put.0 q
          ∙ (either (contains lent_cmp names q) (is_eq (slice_cmp nat_cmp name.now q.now))
          ∙ (ap (λ (b : Bool). b || is_eq (slice_cmp nat_cmp name.now q.now)) (has.known q)
          ∙ (ap (λ (b : Bool). list_any (is_named q.now) (take i xs) || b) test
          ∙ sym (list_any_more (is_named q.now) xs i x there.0))));
      apart = apart_next xs i x here has.apart (none_counted (is_named x.name) (take i xs)
          (subst (λ (n : List ℕ). list_any (is_named n) (take i xs) ≡ false) is none));
    }
