-- Lists of entries in order: where a code is, and the map of such a list.
use Rattle.std.proofs.Common.{◌≡◌, ℕ, zero, suc, ◌<◌, ◌≤◌, Bool, true, false, ◌&&◌, T, List, [], ◌∷◌, length, get_or}
use Rattle.std.proofs.Common.{Some, None, IsTrue, refl, sym, ap, ◌∙◌, subst, arith}
use Rattle.std.proofs.lemmas.List.{nil_from_length}
use Rattle.std.specs.declared.cmp.Ordering.TheVariants.{Less, Equal, Greater}
use Rattle.std.specs.Ordering.{nat_cmp, is_lt}
use Rattle.std.specs.Cmp.{nat_cmp_total, nat_cmp_is, ranked}
use Rattle.std.specs.FinMap.{find, put, is_sorted, entries, entries_sorted, entries-from_sorted, entries-insert}
use Rattle.std.specs.FinMap.{from_sorted, insert, empty, len-empty, len-entries, same_entries_map}
use Rattle.std.specs.FinMap.Entries.{below_all, is_sorted-put}
use Rattle.prop_map.specs.Settings.{Properties}
use Rattle.prop_map.specs.Entries.{Entries}

pub true_of : (b : Bool) → T b → IsTrue b
true_of true h = refl
true_of false h = absurd h

pub of_true : (b : Bool) → IsTrue b → T b
of_true b h = subst T (sym h) tt

pub both_first : (a b : Bool) → T (a && b) → T a
both_first true b h = tt
both_first false b h = absurd h

pub both_second : (a b : Bool) → T (a && b) → T b
both_second true b h = h
both_second false b h = absurd h

-- ---- orders of numbers

pub less_from : (x y : ℕ) → T (is_lt (nat_cmp x y)) → x < y
less_from x y h =
    elim (nat_cmp x y) as (λ r. r ≡ nat_cmp x y → T (is_lt r) → x < y) [
      | Less ↦ λ e h. ranked x y Less e
      | Equal ↦ λ e h. absurd h
      | Greater ↦ λ e h. absurd h
    ] refl h

pub cmp_less : (x y : ℕ) → x < y → nat_cmp x y ≡ Less
cmp_less x y h = sym (nat_cmp_is x y Less h)

pub cmp_equal : (x : ℕ) → nat_cmp x x ≡ Equal
cmp_equal x = sym (nat_cmp_is x x Equal refl)

pub cmp_greater : (x y : ℕ) → y < x → nat_cmp x y ≡ Greater
cmp_greater x y h = sym (nat_cmp_is x y Greater h)

-- ---- a list in order rises

below_each : (x : ℕ) (es : Entries) (i : ℕ) (d : ℕ × List ℕ) → T (below_all nat_cmp x es) → i < length es →
    x < (get_or es i d).0
below_each x [] i d h lt = absurd (omega arith)
below_each x (e ∷ es) zero d h lt = less_from x e.0 (both_first _ _ h)
below_each x (e ∷ es) (suc i) d h lt = below_each x es i d (both_second _ _ h) (omega arith)

pub rises : (es : Entries) (i j : ℕ) (d : ℕ × List ℕ) → T (is_sorted nat_cmp es) → i < j → j < length es →
    (get_or es i d).0 < (get_or es j d).0
rises [] i j d h lt within = absurd (omega arith)
rises (e ∷ es) zero zero d h lt within = absurd (omega arith)
rises (e ∷ es) zero (suc j) d h lt within = below_each e.0 es j d (both_first _ _ h) (omega arith)
rises (e ∷ es) (suc i) zero d h lt within = absurd (omega arith)
rises (e ∷ es) (suc i) (suc j) d h lt within = rises es i j d (both_second _ _ h) (omega arith) (omega arith)

-- ---- past what is before a code

-- each of the first entries has a code below this one
abbrev pub AllBelow : ℕ → ℕ → Entries → Type 0
AllBelow code n es = (i : ℕ) (d : ℕ × List ℕ) → i < n → (get_or es i d).0 < code

-- each entry from here on has a code above this one
abbrev pub AllAbove : ℕ → ℕ → Entries → Type 0
AllAbove code n es = (i : ℕ) (d : ℕ × List ℕ) → n ≤ i → i < length es → code < (get_or es i d).0

pub find_found : (at code : ℕ) (es : Entries) (d : ℕ × List ℕ) → at < length es → AllBelow code at es →
    ((d : ℕ × List ℕ) → (get_or es at d).0 ≡ code) → find nat_cmp code es ≡ Some (get_or es at d).1
find_found at code [] d within below here = absurd (omega arith)
find_found zero code (e ∷ es) d within below here = let same : e.0 ≡ code = here e in rw (same, cmp_equal code) refl
find_found (suc at) code (e ∷ es) d within below here =
    let lt : e.0 < code = below 0 e (omega arith) in
    rw (cmp_greater code e.0 lt) (find_found at code es d (omega arith) (λ i d l. below (suc i) d (omega arith)) here)

pub find_gap : (at code : ℕ) (es : Entries) → at ≤ length es → AllBelow code at es → AllAbove code at es →
    find nat_cmp code es ≡ None
find_gap at code [] within below above = refl
find_gap zero code (e ∷ es) within below above =
    rw (cmp_less code e.0 (above 0 e (omega arith) (omega arith))) (find_gap zero code es (omega arith)
    (λ i d l. absurd (omega arith)) (λ i d l within. above (suc i) d (omega arith) (omega arith)))
find_gap (suc at) code (e ∷ es) within below above =
    let lt : e.0 < code = below 0 e (omega arith) in
    rw (cmp_greater code e.0 lt) (find_gap at code es (omega arith) (λ i d l. below (suc i) d (omega arith))
    (λ i d l within. above (suc i) d (omega arith) (omega arith)))

-- ---- the map of a list

pub entries-empty : entries {K = ℕ} {X = List ℕ} {R = nat_cmp} empty ≡ []
entries-empty = nil_from_length _ (sym (len-entries empty) ∙ len-empty nat_cmp (List ℕ))

pub from_sorted-entries : (m : Properties) → from_sorted (entries m) ≡ m
from_sorted-entries m = same_entries_map _ _ (entries-from_sorted nat_cmp (entries m) (entries_sorted m))

pub from_sorted-nil : from_sorted {K = ℕ} {X = List ℕ} {R = nat_cmp} [] ≡ empty
from_sorted-nil = same_entries_map _ _ (entries-from_sorted nat_cmp [] tt ∙ sym entries-empty)

pub sorted-put : (es : Entries) (code : ℕ) (v : List ℕ) → IsTrue (is_sorted nat_cmp es) →
    IsTrue (is_sorted nat_cmp (put nat_cmp code v es))
sorted-put es code v h = true_of _ (is_sorted-put nat_cmp nat_cmp_total code v es (of_true _ h))

pub from_sorted-put : (es : Entries) (code : ℕ) (v : List ℕ) → IsTrue (is_sorted nat_cmp es) →
    from_sorted {R = nat_cmp} (put nat_cmp code v es) ≡ insert (from_sorted es) code v
from_sorted-put es code v h =
    same_entries_map _ _
    (entries-from_sorted nat_cmp _ (of_true _ (sorted-put es code v h))
    ∙ sym (entries-insert nat_cmp_total (from_sorted es) code v ∙ ap (put nat_cmp code v) (entries-from_sorted nat_cmp
    es (of_true _ h))))
