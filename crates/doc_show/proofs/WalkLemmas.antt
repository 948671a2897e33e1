-- What a walk over columns says of their items.
use Rattle.std.proofs.Common.{◌≡◌, ℕ, sym, ap, ◌∙◌, ◌+◌, ◌-◌, ◌≤◌, List, [], ◌∷◌, ◌++◌, length}
use Rattle.std.proofs.Common.{take, drop, Bool, arith, length-drop}
use Rattle.std.proofs.Common.{append_assoc}
use Rattle.std.specs.Prelude.{slice_range}
use Rattle.std.specs.List.{flat_map}
use Rattle.std.proofs.lemmas.List.{append-nil, drop-drop, drop-take}
use Rattle.std.proofs.lemmas.List.Concat.{flat_map-cons}
use Rattle.run_lists.proofs.Public.{same_front}
use Rattle.doc_model.specs.Stretches.{stretches, BeginsStretch}
use Rattle.doc_model.proofs.Public.{stretches-first, stretches-nil}

-- the front of a range, and what is behind it
range_front : {A : Type 0} (xs : List A) (from to end : ℕ) → from ≤ to → to ≤ end → end ≤ length xs →
    take (to - from) (slice_range xs from end) ≡ slice_range xs from to
range_front xs from to end le within inside =
    ap (take (to - from)) (sym (append-nil (take (end - from) (drop from xs))))
    ∙ same_front (drop from xs) [] (end - from) (to - from) (omega (arith, within))
    (omega (arith, length-drop from xs, inside))

range_back : {A : Type 0} (xs : List A) (from to end : ℕ) → from ≤ to → to ≤ end →
    drop (to - from) (slice_range xs from end) ≡ slice_range xs to end
range_back {A = A} xs from to end le within =
    let sum : end - from ≡ (to - from) + (end - to) = omega (arith, le, within) in
    let place : from + (to - from) ≡ to = omega (arith, le) in
    ap (λ (n : ℕ). drop (to - from) (take n (drop from xs))) sum
    ∙ drop-take (to - from) (end - to) (drop from xs)
    ∙ ap (take (end - to)) (drop-drop (to - from) from xs ∙ ap (λ (n : ℕ). drop n xs) place)

-- a text goes on by the text of the next stretch of a range
pub stretch_on : {A : Type 0} (joins : A → A → Bool) (f : List A → List ℕ) (xs : List A) (from to end : ℕ)
    (text more whole : List ℕ) → from ≤ to → to ≤ end → end ≤ length xs →
    BeginsStretch joins (slice_range xs from end) (to - from) →
    more ≡ text ++ f (slice_range xs from to) → text ++ flat_map f (stretches joins (slice_range xs from end)) ≡ whole →
    more ++ flat_map f (stretches joins (slice_range xs to end)) ≡ whole
stretch_on {A = A} joins f xs from to end text more whole le within inside begins put all =
    let rest = flat_map f (stretches joins (slice_range xs to end)) in
    let cut : stretches joins (slice_range xs from end) ≡ slice_range xs from to ∷ stretches joins
    (slice_range xs to end) =
    stretches-first joins (slice_range xs from end) (to - from) begins
    ∙ (λ i. range_front xs from to end le within inside i ∷ stretches joins (range_back xs from to end le within i)) in
    ap (λ (t : List ℕ). t ++ rest) put
    ∙ append_assoc text (f (slice_range xs from to)) rest
    ∙ ap (λ (t : List ℕ). text ++ t)
    (sym (ap (flat_map f) cut ∙ flat_map-cons f (slice_range xs from to) (stretches joins (slice_range xs to end))))
    ∙ all

-- where nothing is left the text is whole
pub none_left : {A : Type 0} (joins : A → A → Bool) (f : List A → List ℕ) (xs : List A) (end : ℕ)
    (text whole : List ℕ) → text ++ flat_map f (stretches joins (slice_range xs end end)) ≡ whole → text ≡ whole
none_left {A = A} joins f xs end text whole all =
    let zero_long : end - end ≡ 0 = omega arith in
    let none : slice_range xs end end ≡ [] = ap (λ (n : ℕ). take n (drop end xs)) zero_long in
    sym (append-nil text)
    ∙ ap (λ (parts : List (List A)). text ++ flat_map f parts) (sym (stretches-nil joins))
    ∙ ap (λ (rest : List A). text ++ flat_map f (stretches joins rest)) (sym none)
    ∙ all
