-- Names that differ, seen in a list that is in the order of names.
use Rattle.std.proofs.Common.{◌≡◌, refl, ap, subst, ℕ, suc, ◌+◌, ◌≤◌, Bool, true, false, cond, List, []}
use Rattle.std.proofs.Common.{◌∷◌, length, get_or, arith, Ordering}
use Rattle.std.specs.Prelude.{⊤}
use Rattle.std.specs.List.{count_by, AllAdjacentBelow}
use Rattle.std.specs.List.Sorted.{IsPermutation, IsSorted}
use Rattle.std.specs.Cmp.{IsTotalOrder}
use Rattle.std.specs.Ordering.{nat_cmp, is_gt, is_eq, ordering_reverse}
use Rattle.std.specs.Cmp.Lexicographic.{slice_cmp}
use Rattle.std.specs.declared.cmp.Ordering.TheVariants.{Less, Equal, Greater}
use Rattle.std.proofs.lemmas.Cmp.{on_total, nat_list_cmp_total}
use Rattle.std.proofs.lemmas.List.Sorted.{sum_by-IsPermutation}
use Rattle.std.proofs.lemmas.List.Sums.{sum_by-cons}
use Rattle.document_bookmarks.specs.declared.bookmark_order.Bookmark.{Bookmark}
use Rattle.document_bookmarks.specs.Order.{in_order}
use Rattle.document_bookmarks.specs.Bookmarks.{bookmark_cmp}
use Rattle.document_bookmarks.specs.Names.{name_cmp, is_named, AreApart}
use Rattle.document_bookmarks.proofs.OrderLemmas.{NoneBefore, Rises, sorted_rises, counted_in_order}
use Rattle.document_bookmarks.proofs.BookmarkLemmas.{bookmark_total, bookmark_alone}
use Rattle.document_bookmarks.proofs.NameLemmas.{named_is, one_named}

pub name_total : IsTotalOrder name_cmp
name_total = on_total (λ b. b.name) nat_list_cmp_total

behind : (o : Ordering) → is_gt (ordering_reverse o) ≡ false → is_eq o ≡ false → is_gt o ≡ true
behind Less h e = absurd (cc h)
behind Equal h e = absurd (cc e)
behind Greater h e = refl

-- a name that comes no later and is another comes before
comes_behind : (x y : Bookmark) → is_gt (name_cmp x y) ≡ false → is_named x.name y ≡ false →
    is_gt (name_cmp y x) ≡ true
comes_behind x y h e =
    behind (name_cmp y x) (subst (λ (o : Ordering). is_gt o ≡ false) (name_total.antisymm x y) h) e

another : (x y z : Bookmark) (b : Bool) → is_named x.name z ≡ b → is_gt (name_cmp y x) ≡ true →
    is_gt (name_cmp y z) ≡ false → one_named x.name z ≡ 0
another x y z true is above below =
    let no : is_gt (name_cmp y x) ≡ false =
    subst (λ (n : List ℕ). is_gt (slice_cmp nat_cmp y.name n) ≡ false) (named_is x.name z is) below in
    absurd (cc (above, no))
another x y z false is above below = ap (λ (b : Bool). cond b 1 0) is

none_same : (x y : Bookmark) (zs : List Bookmark) → is_gt (name_cmp y x) ≡ true → NoneBefore name_cmp y zs →
    count_by (is_named x.name) zs ≡ 0
none_same x y [] above none = refl
none_same x y (z ∷ zs) above none =
    omega (
      arith,
      sum_by-cons (one_named x.name) z zs,
      another x y z (is_named x.name z) refl above none.0,
      none_same x y zs above none.1,
    )

-- neighbours have other names
abbrev Differ : List Bookmark → Type 0
Differ [] = ⊤
Differ (x ∷ []) = ⊤
Differ (x ∷ y ∷ ys) = (is_named x.name y ≡ false) × Differ (y ∷ ys)

first_apart : (x y : Bookmark) (ys : List Bookmark) (name : List ℕ) (b : Bool) → is_named name x ≡ b →
    is_gt (name_cmp x y) ≡ false → is_named x.name y ≡ false → NoneBefore name_cmp y ys →
    count_by (is_named name) (y ∷ ys) ≤ 1 → count_by (is_named name) (x ∷ y ∷ ys) ≤ 1
first_apart x y ys name true is upto differ none few =
    let same : x.name ≡ name = named_is name x is in
    let own : one_named name x ≡ 1 = ap (λ (b : Bool). cond b 1 0) is in
    let next : one_named x.name y ≡ 0 = ap (λ (b : Bool). cond b 1 0) differ in
    let rest = none_same x y ys (comes_behind x y upto differ) none in
    let zero : count_by (is_named x.name) (y ∷ ys) ≡ 0 =
    omega (arith, sum_by-cons (one_named x.name) y ys, next, rest) in
    let there : count_by (is_named name) (y ∷ ys) ≡ 0 =
    subst (λ (n : List ℕ). count_by (is_named n) (y ∷ ys) ≡ 0) same zero in
    omega (arith, sum_by-cons (one_named name) x (y ∷ ys), own, there)
first_apart x y ys name false is upto differ none few =
    let own : one_named name x ≡ 0 = ap (λ (b : Bool). cond b 1 0) is in
    omega (arith, sum_by-cons (one_named name) x (y ∷ ys), own, few)

pub one_at_most : (b : Bool) → cond b 1 0 ≤ 1
one_at_most true = omega arith
one_at_most false = omega arith

apart_rises : (xs : List Bookmark) → Rises name_cmp xs → Differ xs → AreApart xs
apart_rises [] up differ name = omega arith
apart_rises (x ∷ []) up differ name =
    omega (arith, sum_by-cons (one_named name) x [], one_at_most (is_named name x))
apart_rises (x ∷ y ∷ ys) up differ name =
    first_apart x y ys name (is_named name x) refl up.0.0 differ.0 up.1.0 (apart_rises (y ∷ ys) up.1 differ.1 name)

shifted : (x y : Bookmark) (ys : List Bookmark) (k : ℕ) (d : Bookmark) →
    is_named (get_or (x ∷ y ∷ ys) (suc k) d).name (get_or (x ∷ y ∷ ys) (suc k + 1) d) ≡ false →
    is_named (get_or (y ∷ ys) k d).name (get_or (y ∷ ys) (k + 1) d) ≡ false
shifted x y ys k d h =
    subst (λ (n : ℕ). is_named (get_or (y ∷ ys) k d).name (get_or (x ∷ y ∷ ys) n d) ≡ false)
    (let at : suc k + 1 ≡ suc (k + 1) = omega arith in at) h

differ_from : (xs : List Bookmark) → AllAdjacentBelow (λ x y. is_named x.name y ≡ false) xs (length xs) → Differ xs
differ_from [] all = tt
differ_from (x ∷ []) all = tt
differ_from (x ∷ y ∷ ys) all = (
  all 0 x (omega arith),
  differ_from (y ∷ ys) (λ k d low. shifted x y ys k d (all (suc k) d (omega (arith, low)))),
)

-- names in their order differ where neighbours do
pub apart_sorted : (xs : List Bookmark) → IsSorted name_cmp xs →
    AllAdjacentBelow (λ x y. is_named x.name y ≡ false) xs (length xs) → AreApart xs
apart_sorted xs sorted differ = apart_rises xs (sorted_rises name_cmp name_total xs sorted) (differ_from xs differ)

-- what a sort leaves is put in the same order
pub permuted_in_order : (xs ys : List Bookmark) → IsPermutation xs ys →
    in_order bookmark_cmp ys ≡ in_order bookmark_cmp xs
permuted_in_order xs ys moved =
    counted_in_order bookmark_cmp bookmark_total bookmark_alone ys xs (λ f. sum_by-IsPermutation f xs ys moved)
