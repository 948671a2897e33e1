-- What the items of a text have is found by their CPs.
use Rattle.std.proofs.Common.{◌≡◌, ◌≢◌, ◌∙◌, refl, ap, ℕ, zero, suc, ◌+◌, ◌<◌, ◌≤◌, cond, List, [], ◌∷◌, ◌++◌, length}
use Rattle.std.proofs.Common.{Option, Some, None, slice_get, arith}
use Rattle.std.specs.Prelude.{is_some}
use Rattle.std.specs.List.{count_by}
use Rattle.std.proofs.lemmas.Bool.{eq-eqb, ne_eqb}
use Rattle.std.proofs.lemmas.List.Sums.{sum_by-cons}
use Rattle.std.proofs.lemmas.Option.{same_Some}
use Rattle.doc_model.specs.declared.item.Item.{Item}
use Rattle.doc_model.specs.Entries.{entry_at_cp}
use Rattle.doc_model.specs.Collected.{entry_before, collected, cuts_from}

-- the first entry has the CP, or not
pub entry_here : {A : Type 0} (c cp : ℕ) (v : A) (rest : List (ℕ × A)) → c ≡ cp → entry_at_cp ((c, v) ∷ rest) cp ≡ Some
    v
entry_here c cp v rest e = rw (eq-eqb c cp e) refl

pub entry_later : {A : Type 0} (c cp : ℕ) (v : A) (rest : List (ℕ × A)) → c ≢ cp →
    entry_at_cp ((c, v) ∷ rest) cp ≡ entry_at_cp rest cp
entry_later c cp v rest other = rw (ne_eqb c cp other) refl

-- what is before an entry of another CP does not matter
passed_over : {A : Type 0} (o : Option A) (c cp : ℕ) (rest : List (ℕ × A)) → c ≢ cp →
    entry_at_cp (entry_before o c rest) cp ≡ entry_at_cp rest cp
passed_over None c cp rest other = refl
passed_over (Some v) c cp rest other = entry_later c cp v rest other

-- no entry has a CP before the first item
pub none_below : {A : Type 0} (what : Item → Option A) (from : ℕ) (items : List Item) (cp : ℕ) → cp < from →
    entry_at_cp (collected what from items) cp ≡ None
unfolding collected
none_below what from [] cp below = refl
none_below what from (item ∷ items) cp below =
    passed_over (what item) from cp (collected what (from + 1) items) (λ e. absurd (omega (arith, e, below)))
    ∙ none_below what (from + 1) items cp (omega (arith, below))

-- the entry of the first item
first_entry : {A : Type 0} (o : Option A) (cp : ℕ) (rest : List (ℕ × A)) → entry_at_cp rest cp ≡ None →
    entry_at_cp (entry_before o cp rest) cp ≡ o
first_entry None cp rest none = none
first_entry (Some v) cp rest none = entry_here cp cp v rest refl

-- what an item has is found at its CP
pub entry_of_item : {A : Type 0} (what : Item → Option A) (from : ℕ) (items : List Item) (i : ℕ) (item : Item) →
    slice_get items i ≡ Some item → entry_at_cp (collected what from items) (from + i) ≡ what item
unfolding collected
entry_of_item what from [] i item here = absurd (cc (here))
entry_of_item what from (first ∷ items) zero item here =
    let at : from + zero ≡ from = omega arith in
    let same : first ≡ item = same_Some first item here in
    ap (entry_at_cp (entry_before (what first) from (collected what (from + 1) items))) at
    ∙ first_entry (what first) from (collected what (from + 1) items)
    (none_below what (from + 1) items from (omega arith))
    ∙ ap what same
entry_of_item what from (first ∷ items) (suc i) item here =
    let at : from + suc i ≡ from + 1 + i = omega arith in
    passed_over (what first) from (from + suc i) (collected what (from + 1) items) (λ e. absurd (omega (arith, e)))
    ∙ ap (entry_at_cp (collected what (from + 1) items)) at
    ∙ entry_of_item what (from + 1) items i item here

-- no entry has a CP behind the last item
pub found_before : {A : Type 0} (what : Item → Option A) (from : ℕ) (items : List Item) (cp : ℕ) →
    from + length items ≤ cp → entry_at_cp (collected what from items) cp ≡ None
unfolding collected
found_before what from [] cp past = refl
found_before what from (item ∷ items) cp past =
    passed_over (what item) from cp (collected what (from + 1) items) (λ e. absurd (omega (arith, e, past)))
    ∙ found_before what (from + 1) items cp (omega (arith, past))

before-append : {A : Type 0} (o : Option A) (cp : ℕ) (xs ys : List (ℕ × A)) →
    entry_before o cp (xs ++ ys) ≡ entry_before o cp xs ++ ys
before-append None cp xs ys = refl
before-append (Some v) cp xs ys = refl

-- what two texts have that are one after the other
pub collected-append : {A : Type 0} (what : Item → Option A) (from : ℕ) (xs ys : List Item) →
    collected what from (xs ++ ys) ≡ collected what from xs ++ collected what (from + length xs) ys
unfolding collected
collected-append what from [] ys =
    let at : from ≡ from + 0 = omega arith in ap (λ cp. collected what cp ys) at
collected-append what from (x ∷ xs) ys =
    let at : from + 1 + length xs ≡ from + length (x ∷ xs) = omega arith in
    ap (entry_before (what x) from) (collected-append what (from + 1) xs ys
    ∙ ap (λ cp. collected what (from + 1) xs ++ collected what cp ys) at)
    ∙ before-append (what x) from (collected what (from + 1) xs) (collected what (from + length (x ∷ xs)) ys)

one_counted : {A : Type 0} (o : Option A) (cp : ℕ) (rest : List (ℕ × A)) →
    cond (is_some o) 1 0 + length rest ≡ length (entry_before o cp rest)
one_counted None cp rest = omega arith
one_counted (Some v) cp rest = omega arith

-- there are as many entries as items that have such a thing
pub collected_count : {A : Type 0} (what : Item → Option A) (from : ℕ) (items : List Item) →
    count_by (λ item. is_some (what item)) items ≡ length (collected what from items)
unfolding collected
collected_count what from [] = refl
collected_count what from (item ∷ items) =
    sum_by-cons (λ x. cond (is_some (what x)) 1 0) item items
    ∙ ap (λ n. cond (is_some (what item)) 1 0 + n) (collected_count what (from + 1) items)
    ∙ one_counted (what item) from (collected what (from + 1) items)

-- texts are cut at one CP more than there are texts
pub length-cuts_from : (cp : ℕ) (texts : List (List Item)) → length (cuts_from cp texts) ≡ length texts + 1
unfolding cuts_from
length-cuts_from cp [] = refl
length-cuts_from cp (text ∷ texts) = let rest = length-cuts_from (cp + length text) texts in omega (arith, rest)
