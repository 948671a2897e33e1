-- The stretches of a list cut it, and nothing else does.
use Rattle.std.proofs.Common.{◌≡◌, ◌∙◌, inl, inr, ap, sym, refl, ℕ, zero, suc, ◌+◌, ◌-◌, ◌<◌, Bool, true, false, List}
use Rattle.std.proofs.Common.{[], ◌∷◌, ◌++◌, length, take, Option, Some, None, arith}
use Rattle.std.specs.List.{All, flat_map, slice_get}
use Rattle.std.proofs.lemmas.Bool.{cases_Bool}
use Rattle.std.proofs.lemmas.Option.{same_Some, none-some}
use Rattle.std.proofs.lemmas.List.{length-append}
use Rattle.std.proofs.Math.Seq.{take-append_seam, drop-append_seam}
use Rattle.std.proofs.lemmas.List.Elements.{All-head, All-tail, All-cons}
use Rattle.doc_model.specs.Stretches.{stretch_from, stretches, joins_next, BeginsStretch}
use Rattle.doc_model.specs.Stretches.{IsJoinedStretch, goes_over, AreStretches}
use Rattle.doc_model.proofs.StretchLemmas.{joins_at-tail, stretches-first, stretches-nil}
use Rattle.doc_bits.proofs.Public.{slice_get_before}

-- no part goes over into the next one
abbrev AreApart : {A : Type 0} → (A → A → Bool) → List (List A) → Type 0
AreApart {A = A} joins parts =
    (i : ℕ) (one next : List A) → slice_get parts i ≡ Some one → slice_get parts (i + 1) ≡ Some next →
    goes_over joins one next ≡ false

apart_cons : {A : Type 0} (joins : A → A → Bool) (part : List A) (parts : List (List A)) →
    ((next : List A) → slice_get parts 0 ≡ Some next → goes_over joins part next ≡ false) → AreApart joins parts →
    AreApart joins (part ∷ parts)
apart_cons joins part parts first later zero one next h g =
    ap (λ p. goes_over joins p next) (sym (same_Some part one h)) ∙ first next g
apart_cons joins part parts first later (suc i) one next h g =
    let e : suc i + 1 ≡ suc (i + 1) = omega arith in
    later i one next h (sym (ap (slice_get (part ∷ parts)) e) ∙ g)

apart_tail : {A : Type 0} (joins : A → A → Bool) (part : List A) (parts : List (List A)) →
    AreApart joins (part ∷ parts) → AreApart joins parts
apart_tail joins part parts all i one next h g =
    let e : suc i + 1 ≡ suc (i + 1) = omega arith in
    all (suc i) one next h (ap (slice_get (part ∷ parts)) e ∙ g)

-- one element joins nothing
one_joined : {A : Type 0} (joins : A → A → Bool) (x : A) → IsJoinedStretch joins (x ∷ [])
one_joined joins x k h = absurd (omega arith)

-- an element that joins the next one makes the first part longer
joined_more : {A : Type 0} (joins : A → A → Bool) (x y : A) (ys : List A) → joins x y ≡ true →
    IsJoinedStretch joins (y ∷ ys) → IsJoinedStretch joins (x ∷ y ∷ ys)
joined_more joins x y ys e j zero h = e
joined_more joins x y ys e j (suc k) h = joins_at-tail joins x (y ∷ ys) k ∙ j k (omega arith)

over_more : {A : Type 0} (joins : A → A → Bool) (x y : A) (ys next : List A) →
    goes_over joins (x ∷ y ∷ ys) next ≡ goes_over joins (y ∷ ys) next
over_more joins x y ys next =
    let a : length (x ∷ y ∷ ys) - 1 ≡ suc (length ys) = omega arith in
    let b : length (y ∷ ys) - 1 ≡ length ys = omega arith in
    ap (λ i. joins_next joins (slice_get (x ∷ y ∷ ys) i) (slice_get next 0)) a
    ∙ sym (ap (λ i. joins_next joins (slice_get (y ∷ ys) i) (slice_get next 0)) b)

cut_longer : {A : Type 0} (joins : A → A → Bool) (x y : A) (xs ys : List A) (more : List (List A)) → joins x y ≡ true →
    AreStretches joins xs ((y ∷ ys) ∷ more) → AreStretches joins (x ∷ xs) ((x ∷ y ∷ ys) ∷ more)
cut_longer joins x y xs ys more e c = record {
  whole = ap (λ zs. x ∷ zs) c.whole;
  some =
      All-cons (λ part. 0 < length part) (x ∷ y ∷ ys) more (omega arith)
      (All-tail (λ part. 0 < length part) (y ∷ ys) more c.some);
  joined =
      All-cons (IsJoinedStretch joins) (x ∷ y ∷ ys) more (joined_more joins x y ys e
      (All-head (IsJoinedStretch joins) (y ∷ ys) more c.joined))
      (All-tail (IsJoinedStretch joins) (y ∷ ys) more c.joined);
  apart =
      apart_cons joins (x ∷ y ∷ ys) more (λ next g. over_more joins x y ys next ∙ c.apart 0 (y ∷ ys) next refl g)
      (apart_tail joins (y ∷ ys) more c.apart);
}

-- another one is a part of its own
cut_new : {A : Type 0} (joins : A → A → Bool) (x : A) (xs : List A) (parts : List (List A)) →
    ((next : List A) → slice_get parts 0 ≡ Some next → goes_over joins (x ∷ []) next ≡ false) →
    AreStretches joins xs parts → AreStretches joins (x ∷ xs) ((x ∷ []) ∷ parts)
cut_new joins x xs parts first c = record {
  whole = ap (λ zs. x ∷ zs) c.whole;
  some = All-cons (λ part. 0 < length part) (x ∷ []) parts (omega arith) c.some;
  joined = All-cons (IsJoinedStretch joins) (x ∷ []) parts (one_joined joins x) c.joined;
  apart = apart_cons joins (x ∷ []) parts first c.apart;
}

cut_step : {A : Type 0} (joins : A → A → Bool) (x : A) (xs : List A) (parts : List (List A)) →
    AreStretches joins xs parts → AreStretches joins (x ∷ xs) (stretch_from joins x parts)
cut_step joins x xs [] c = cut_new joins x xs [] (λ next g. absurd (none-some next g)) c
cut_step joins x xs ([] ∷ more) c = let h = All-head (λ part. 0 < length part) [] more c.some in absurd (omega arith)
cut_step joins x xs ((y ∷ ys) ∷ more) c = elim (cases_Bool (joins x y)) [
  | inl e ↦ rw e (cut_longer joins x y xs ys more e c)
  | inr e ↦
      rw e (cut_new joins x xs ((y ∷ ys) ∷ more) (λ next g. sym
      (ap (λ p. goes_over joins (x ∷ []) p) (same_Some (y ∷ ys) next g)) ∙ e) c)
]

pub are_stretches : {A : Type 0} (joins : A → A → Bool) (xs : List A) → AreStretches joins xs (stretches joins xs)
unfolding stretches
are_stretches joins [] = record {
  whole = refl;
  some = λ k d h. absurd (omega arith);
  joined = λ k d h. absurd (omega arith);
  apart = λ i one next h g. absurd (none-some one h);
}
are_stretches joins (x ∷ xs) = cut_step joins x xs (stretches joins xs) (are_stretches joins xs)

slice_get-after : {A : Type 0} (xs ys : List A) → slice_get (xs ++ ys) (length xs) ≡ slice_get ys 0
slice_get-after [] ys = refl
slice_get-after (x ∷ xs) ys = slice_get-after xs ys

pub joins_nothing : {A : Type 0} (joins : A → A → Bool) (x : Option A) → joins_next joins x None ≡ false
joins_nothing joins None = refl
joins_nothing joins (Some x) = refl

-- the first part does not go over into what is after it
over_rest : {A : Type 0} (joins : A → A → Bool) (part : List A) (more : List (List A)) →
    All (λ part. 0 < length part) more →
    AreApart joins (part ∷ more) → joins_next joins (slice_get part (length part - 1))
    (slice_get (flat_map (λ p. p) more) 0) ≡ false
over_rest joins part [] some apart = joins_nothing joins (slice_get part (length part - 1))
over_rest joins part (next ∷ others) some apart =
    let h = All-head (λ part. 0 < length part) next others some in
    ap (joins_next joins (slice_get part (length part - 1))) (slice_get_before next (flat_map (λ p. p) others) 0 h)
    ∙ apart 0 part next refl refl

begins : {A : Type 0} (joins : A → A → Bool) (part : List A) (rest : List A) → 0 < length part → IsJoinedStretch joins
    part →
    joins_next joins (slice_get part (length part - 1)) (slice_get rest 0) ≡ false →
    BeginsStretch joins (part ++ rest) (length part)
begins joins part rest some joined over = record {
  some = some;
  within = omega (arith, length-append part rest);
  joined = λ k h.
      ap (λ o. joins_next joins o (slice_get (part ++ rest) (k + 1))) (slice_get_before part rest k (omega arith))
      ∙ (ap (joins_next joins (slice_get part k)) (slice_get_before part rest (k + 1) h) ∙ joined k h);
  ends =
      let e : length part - 1 + 1 ≡ length part = omega arith in
      ap (λ o. joins_next joins o (slice_get (part ++ rest) (length part - 1 + 1)))
      (slice_get_before part rest (length part - 1) (omega arith))
      ∙ (ap (λ i. joins_next joins (slice_get part (length part - 1)) (slice_get (part ++ rest) i)) e
      ∙ (ap (joins_next joins (slice_get part (length part - 1))) (slice_get-after part rest) ∙ over));
}

pub stretches_only : {A : Type 0} (joins : A → A → Bool) (xs : List A) (parts : List (List A)) →
    AreStretches joins xs parts → parts ≡ stretches joins xs
stretches_only joins xs [] c = sym (stretches-nil joins) ∙ ap (stretches joins) c.whole
stretches_only joins xs (part ∷ more) c =
    let rest = flat_map (λ p. p) more in
    let some = All-tail (λ part. 0 < length part) part more c.some in
    let later = stretches_only joins rest more (record {
      whole = refl;
      some = some;
      joined = All-tail (IsJoinedStretch joins) part more c.joined;
      apart = apart_tail joins part more c.apart;
    }) in
    let first = stretches-first joins (part ++ rest) (length part)
    (begins joins part rest (All-head (λ part. 0 < length part) part more c.some)
    (All-head (IsJoinedStretch joins) part more c.joined)
    (over_rest joins part more some c.apart)) in
    ap (λ m. part ∷ m) later
    ∙ (sym (ap (λ p. p ∷ stretches joins rest) (take-append_seam part rest))
    ∙ (sym (ap (λ r. take (length part) (part ++ rest) ∷ stretches joins r) (drop-append_seam part rest))
    ∙ (sym first ∙ ap (stretches joins) c.whole)))
