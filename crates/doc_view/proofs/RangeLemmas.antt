-- What is seen of ranges of items.
use Rattle.std.proofs.Common.{◌≡◌, ◌∙◌, ℕ, ◌+◌, ◌-◌, ◌≤◌, List, [], ◌∷◌, ◌++◌, length, take, drop, sym, ap}
use Rattle.std.proofs.Common.{append_assoc, append-nil, arith, Some, length-append}
use Rattle.std.specs.Prelude.{slice_get, slice_range, option_map}
use Rattle.std.proofs.Math.Seq.{take-add}
use Rattle.doc_bits.proofs.Public.{slice_get_push, range_split}
use Rattle.run_lists.proofs.Public.{run_and_rest}
use Rattle.doc_model.specs.declared.item.Item.{Item}
use Rattle.plain_doc.specs.RulesOfTexts.{last_unit}
use Rattle.doc_view.specs.declared.reading.Manner.{Manner}
use Rattle.doc_view.specs.declared.reading.Seen.{Seen}
use Rattle.doc_view.specs.Seen.{Formats, seen_as, seen_from, front_of}

-- ---- ranges

-- what is before a range, and the range
pub front_then : {A : Type 0} (xs : List A) (from to : ℕ) → from ≤ to → take from xs ++ slice_range xs from to ≡ take to xs
front_then {A = A} xs from to low =
    let sum : from + (to - from) ≡ to = omega (arith, low) in
    sym (take-add from (to - from) xs) ∙ ap (λ (n : ℕ). take n xs) sum

-- a range of nothing
pub no_range : {A : Type 0} (xs : List A) (at : ℕ) → slice_range xs at at ≡ []
no_range {A = A} xs at =
    let zero_long : at - at ≡ 0 = omega arith in
    ap (λ (n : ℕ). take n (drop at xs)) zero_long

-- a range of one
pub one_range : {A : Type 0} (xs : List A) (at : ℕ) (x : A) → slice_get xs at ≡ Some x →
    slice_range xs at (at + 1) ≡ x ∷ []
one_range {A = A} xs at x here =
    let one : at + 1 - at ≡ 1 = omega arith in
    ap (λ (n : ℕ). take n (drop at xs)) one ∙ ap (take 1) (run_and_rest xs at x here)

-- ---- what is seen

pub seen_from-append : (formats : Formats) (manner : Manner) (istd : ℕ) (front xs ys : List Item) →
    seen_from formats manner istd front (xs ++ ys)
    ≡ seen_from formats manner istd front xs ++ seen_from formats manner istd (front ++ xs) ys
unfolding seen_from
seen_from-append formats manner istd front [] ys =
    ap (λ (f : List Item). seen_from formats manner istd f ys) (sym (append-nil front))
seen_from-append formats manner istd front (x ∷ xs) ys =
    ap (λ (more : List Seen). seen_as manner (formats istd x.chp) (front_of manner front) x ∷ more)
    (seen_from-append formats manner istd (front ++ x ∷ []) xs ys
    ∙ ap
    (λ (f : List Item). seen_from formats manner istd (front ++ x ∷ []) xs ++ seen_from formats manner istd f ys)
    (append_assoc front (x ∷ []) xs))

-- what is seen from a place on, up to another
abbrev pub seen_range : Formats → Manner → ℕ → List Item → ℕ → ℕ → List Seen
seen_range formats manner istd items from to =
    seen_from formats manner istd (take from items) (slice_range items from to)

pub seen_then : (formats : Formats) (manner : Manner) (istd : ℕ) (items : List Item) (from mid to : ℕ) → from ≤ mid →
    mid ≤ to →
    seen_range formats manner istd items from to
    ≡ seen_range formats manner istd items from mid ++ seen_range formats manner istd items mid to
seen_then formats manner istd items from mid to low high =
    ap (seen_from formats manner istd (take from items)) (range_split items from mid to low high)
    ∙ seen_from-append formats manner istd (take from items) (slice_range items from mid) (slice_range items mid to)
    ∙ ap
    (λ (f : List Item). seen_range formats manner istd items from mid ++ seen_from formats manner istd f
    (slice_range items mid to))
    (front_then items from mid low)

pub seen_none : (formats : Formats) (manner : Manner) (istd : ℕ) (items : List Item) (at : ℕ) →
    seen_range formats manner istd items at at ≡ []
unfolding seen_from
seen_none formats manner istd items at =
    ap (seen_from formats manner istd (take at items)) (no_range items at)

pub seen_one : (formats : Formats) (manner : Manner) (istd : ℕ) (items : List Item) (at : ℕ) (item : Item) →
    slice_get items at ≡ Some item →
    seen_range formats manner istd items at (at + 1)
    ≡ seen_as manner (formats istd item.chp) (front_of manner (take at items)) item ∷ []
unfolding seen_from
seen_one formats manner istd items at item here =
    ap (seen_from formats manner istd (take at items)) (one_range items at item here)

-- ---- the items in front

pub last_is : (front : List Item) (item : Item) → last_unit (front ++ item ∷ []) ≡ Some item.unit
last_is front item =
    let unit : Item → ℕ = λ item. item.unit in
    let place : length (front ++ item ∷ []) - 1 ≡ length front = omega (arith, length-append front (item ∷ [])) in
    ap (λ (n : ℕ). option_map unit (slice_get (front ++ item ∷ []) n)) place
    ∙ ap (option_map unit) (slice_get_push front item)
