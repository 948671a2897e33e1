-- What the units of a level's text represent, part by part.
use Rattle.std.proofs.Common.{◌≡◌, ◌∙◌, refl, sym, ap, subst, ℕ, zero, suc, ◌+◌, ◌<◌, ◌≤◌, List, [], ◌∷◌, ◌++◌, length}
use Rattle.std.proofs.Common.{take, drop, slice_index, get_or, ltb, append-nil, arith}
use Rattle.std.specs.List.{flat_map}
use Rattle.std.proofs.lemmas.Bool.{cond-false, le-ltb}
use Rattle.std.proofs.lemmas.Option.{get_or_from_slice_get}
use Rattle.std.proofs.lemmas.Grind.{flat_map-append}
use Rattle.std.proofs.lemmas.List.{append_assoc, take_more}
use Rattle.std.proofs.Math.Seq.{take-add}
use Rattle.doc_parts.specs.Tabulated.{tabulate}
use Rattle.list_numbers.specs.declared.level.Level.{Level}
use Rattle.list_numbers.specs.Numbers.{placed_unit}
use Rattle.list_numbers.proofs.TabulatedLemmas.{slice_get-tabulate}

-- a unit from 9 on represents itself
pub itself : (levels : List Level) (own : ℕ) (counts : ℕ → ℕ) (unit : ℕ) → 9 ≤ unit →
    placed_unit levels own counts unit ≡ unit ∷ []
itself levels own counts unit high = cond-false (ltb unit 9) _ (unit ∷ []) (le-ltb unit 9 high)

-- one unit more
one_more : (f : ℕ → List ℕ) (text : List ℕ) (n : ℕ) → n < length text →
    flat_map f (take (n + 1) text) ≡ flat_map f (take n text) ++ f (slice_index text n)
one_more f text n within =
    ap (flat_map f) (take_more text n 0 within)
    ∙ flat_map-append f (take n text) (get_or text n 0 ∷ [])
    ∙ ap (λ (last : List ℕ). flat_map f (take n text) ++ last) (append-nil (f (slice_index text n)))

-- the first unit of a text
pub first_placed : (f : ℕ → List ℕ) (text : List ℕ) → 0 < length text → flat_map f (take 1 text) ≡ f (slice_index text 0)
first_placed f text some = one_more f text 0 some

-- the number of a level among those of nine
pub own_number_of : (f : ℕ → List ℕ) (numbers : List (List ℕ)) (unit : ℕ) (number : List ℕ) → numbers ≡ tabulate f 9 →
    unit < 9 → number ≡ get_or numbers unit number → number ≡ f unit
own_number_of f numbers unit number are low there =
    there
    ∙ ap (λ (ns : List (List ℕ)). get_or ns unit number) are
    ∙ get_or_from_slice_get (tabulate f 9) unit (f unit) number (slice_get-tabulate f 9 unit low)

-- units that represent themselves are what they are
pub plain_placed : (f : ℕ → List ℕ) → ((unit : ℕ) → 9 ≤ unit → f unit ≡ unit ∷ []) → (text : List ℕ) (n : ℕ) →
    n ≤ length text → ((k : ℕ) → k < n → 9 ≤ slice_index text k) → flat_map f (take n text) ≡ take n text
plain_placed f own text zero within plain = refl
plain_placed f own text (suc n) within plain =
    let next : n + 1 ≡ suc n = omega arith in
    let low : n < length text = omega (arith, within) in
    subst (λ (m : ℕ). flat_map f (take m text) ≡ take m text) next
    (one_more f text n low
    ∙ ap (λ (front : List ℕ). front ++ f (slice_index text n))
    (plain_placed f own text n (omega (arith, within)) (λ k below. plain k (omega (arith, below))))
    ∙ ap (λ (last : List ℕ). take n text ++ last) (own (slice_index text n) (plain n (omega arith)))
    ∙ sym (take_more text n 0 low))

-- one part behind another
pub placed_more : (f : ℕ → List ℕ) (text before old new : List ℕ) (done count : ℕ) →
    old ≡ before ++ flat_map f (take done text) → new ≡ old ++ flat_map f (take count (drop done text)) →
    new ≡ before ++ flat_map f (take (done + count) text)
placed_more f text before old new done count so_far more =
    let front = flat_map f (take done text) in
    let rest = flat_map f (take count (drop done text)) in
    more
    ∙ ap (λ (l : List ℕ). l ++ rest) so_far
    ∙ append_assoc before front rest
    ∙ ap (λ (l : List ℕ). before ++ l)
    (sym (ap (flat_map f) (take-add done count text) ∙ flat_map-append f (take done text) (take count (drop done text))))
