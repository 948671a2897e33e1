-- The same title once more changes nothing: values are padded once, and the title is where it stood.
use Rattle.std.proofs.Common.{◌≡◌, ◌∙◌, ℕ, ◌+◌, Bool, true, false, List, [], ◌∷◌, ◌++◌, length, map}
use Rattle.std.proofs.Common.{refl}
use Rattle.std.proofs.Common.{sym, ap, arith}
use Rattle.std.specs.Prelude.{◌||◌, ◌==◌, if◌then◌else◌, sum_by, flat_map}
use Rattle.std.specs.List.{list_any}
use Rattle.std.proofs.lemmas.Bool.{false≢true}
use Rattle.std.proofs.lemmas.List.{append-nil, length-map, map-append}
use Rattle.std.proofs.lemmas.List.Sums.{sum_by-cons}
use Rattle.doc_bits.specs.Number.{number_bytes, zeros}
use Rattle.doc_bits.proofs.Public.{map-map, or_second}
use Rattle.summary_set.specs.declared.values.Property.{Property}
use Rattle.summary_set.specs.Values.{property_values}
use Rattle.summary_set.specs.Written.{KeptBytes, kept_bytes, pad_len, padded_value, padded_len, padded_property}
use Rattle.summary_set.specs.Written.{pair_bytes}
use Rattle.summary_set.specs.Written.{is_title_property, title_property, in_place, retitled, first_offset, written_size}
use Rattle.summary_set.specs.Written.{written_head, written_set, retitled_stream}
use Rattle.summary_set.specs.Laws.{IsAsked}
use Rattle.summary_set.proofs.WriteLemmas.{padded_len-is}
use Rattle.summary_set.proofs.TitleLemmas.{in_place-id, kept_with_title}

-- ---- padding

no_pad : (len : ℕ) → pad_len (len + pad_len len) ≡ 0
no_pad len = omega arith

padded-padded : (value : List ℕ) → padded_value (padded_value value) ≡ padded_value value
unfolding zeros
padded-padded value =
    let none : pad_len (length (padded_value value)) ≡ 0 = ap pad_len (padded_len-is value) ∙ no_pad (length value) in
    ap (λ n. padded_value value ++ zeros n) none ∙ append-nil (padded_value value)

padded_property-again : (p : Property) → padded_property (padded_property p) ≡ padded_property p
padded_property-again p = ap (λ v. record { id = p.id; value = v }) (padded-padded p.value)

-- ---- the written set has the same bytes for padded values

sum-padded : (xs : List Property) → sum_by padded_len (map padded_property xs) ≡ sum_by padded_len xs
sum-padded [] = refl
sum-padded (x ∷ xs) =
    let ih = sum-padded xs in
    let same : padded_len (padded_property x) ≡ padded_len x = ap (λ v. length v) (padded-padded x.value) in
    let a = sum_by-cons padded_len (padded_property x) (map padded_property xs) in
    let b = sum_by-cons padded_len x xs in
    omega arith

pair_bytes-padded : (from : ℕ) (xs : List Property) → pair_bytes from (map padded_property xs) ≡ pair_bytes from xs
pair_bytes-padded from [] = refl
pair_bytes-padded from (x ∷ xs) =
    let same : padded_len (padded_property x) ≡ padded_len x = ap (λ v. length v) (padded-padded x.value) in
    ap (λ n. number_bytes 4 x.id ++ (number_bytes 4 from ++ pair_bytes (from + n) (map padded_property xs))) same
    ∙ ap (λ rest. number_bytes 4 x.id ++ (number_bytes 4 from ++ rest)) (pair_bytes-padded (from + padded_len x) xs)

values-padded : (xs : List Property) →
    flat_map (λ (p : Property). padded_value p.value) (map padded_property xs) ≡ flat_map (λ (p
    : Property). padded_value p.value) xs
values-padded [] = refl
values-padded (x ∷ xs) =
    let rest : List ℕ = flat_map (λ (p : Property). padded_value p.value) (map padded_property xs) in
    ap (λ v. v ++ rest) (padded-padded x.value) ∙ ap (λ r. padded_value x.value ++ r) (values-padded xs)

assembled : KeptBytes → ℕ → ℕ → List ℕ → List ℕ → List ℕ
assembled kept size count pairs values =
    written_head kept ++ (number_bytes 4 size ++ (number_bytes 4 count ++ (pairs ++ values)))

written-padded : (kept : KeptBytes) (xs : List Property) →
    written_set kept (map padded_property xs) ≡ written_set kept xs
unfolding assembled
written-padded kept xs =
    let ys : List Property = map padded_property xs in
    let sum = sum-padded xs in
    let len : length ys ≡ length xs = length-map xs padded_property in
    let first : first_offset ys ≡ first_offset xs = omega arith in
    let size : written_size ys ≡ written_size xs = omega arith in
    let values : List Property → List ℕ = flat_map (λ (p : Property). padded_value p.value) in
    ap (λ n. assembled kept n (length ys) (pair_bytes (first_offset ys) ys) (values ys)) size
    ∙ (ap (λ n. assembled kept (written_size xs) n (pair_bytes (first_offset ys) ys) (values ys)) len
    ∙ (ap (λ b. assembled kept (written_size xs) (length xs) b (values ys)) (ap (λ n. pair_bytes n ys) first
    ∙ pair_bytes-padded (first_offset xs) xs)
    ∙ ap (λ b. assembled kept (written_size xs) (length xs) (pair_bytes (first_offset xs) xs) b) (values-padded xs)))

-- ---- the title is there

either_true : (a b d : Bool) → (a || b) ≡ true → (b ≡ true → d ≡ true) → (a || d) ≡ true
either_true true b d h more = refl
either_true false b d h more = more h

any_first : (title : List ℕ) (values rest : List Property) → list_any is_title_property values ≡ true → list_any
    is_title_property
    (map padded_property (map (in_place title) values ++ rest)) ≡ true
any_first title [] rest h = absurd (false≢true h)
any_first title (x ∷ xs) rest h =
    let later : Bool = list_any is_title_property (map padded_property (map (in_place title) xs ++ rest)) in
    ap (λ id. (id == 2) || later) (in_place-id title x)
    ∙ either_true (is_title_property x) (list_any is_title_property xs) later h (any_first title xs rest)

any_last : (title : List ℕ) (values : List Property) →
    list_any is_title_property (map padded_property (values ++ title_property title
    ∷ [])) ≡ true
any_last title [] = refl
any_last title (x ∷ xs) = or_second (is_title_property (padded_property x)) (list_any is_title_property (map
    padded_property (xs ++
    title_property title ∷ []))) (any_last title xs)

any_titled : (title : List ℕ) (values : List Property) (there : Bool) → list_any is_title_property values ≡ there →
    list_any is_title_property
    (map padded_property (map (in_place title) values ++ (if there then [] else title_property title ∷ []))) ≡ true
any_titled title values true h = any_first title values [] h
any_titled title values false h = any_last title (map (in_place title) values)

-- ---- and is put where it is

-- a property with the title in its place
again : List ℕ → Property → Property
again title p = padded_property (in_place title (padded_property p))

again_title : (title : List ℕ) → again title (title_property title) ≡ padded_property (title_property title)
unfolding again
again_title title = refl

again_case : (test : Bool) (title : List ℕ) (p : Property) → is_title_property p ≡ test →
    again title (if test then title_property
    title else p) ≡ padded_property (if test then title_property title else p)
unfolding again
again_case true title p e = refl
again_case false title p e =
    ap (λ test. padded_property (if test then title_property title else padded_property p)) e ∙ padded_property-again p

again_in_place : (title : List ℕ) (values : List Property) → map (again title) (map (in_place title) values) ≡ map
    padded_property (map (in_place title) values)
again_in_place title [] = refl
again_in_place title (x ∷ xs) =
    ap (λ p. p ∷ map (again title) (map (in_place title) xs)) (again_case (is_title_property x) title x refl)
    ∙ ap (λ ps. padded_property (in_place title x) ∷ ps) (again_in_place title xs)

again_last : (title : List ℕ) (there : Bool) → map (again title) (if there then [] else title_property title ∷ []) ≡ map
    padded_property (if there then [] else title_property title ∷ [])
again_last title true = refl
again_last title false = ap (λ p. p ∷ []) (again_title title)

again_retitled : (title : List ℕ) (values : List Property) →
    map (again title) (retitled values title) ≡ map padded_property
    (retitled values title)
again_retitled title values =
    let old : List Property = map (in_place title) values in
    let last : List Property = if list_any is_title_property values then [] else title_property title ∷ [] in
    map-append (again title) old last
    ∙ (ap (λ xs. xs ++ map (again title) last) (again_in_place title values)
    ∙ (ap (λ xs. map padded_property old ++ xs) (again_last title (list_any is_title_property values))
    ∙ sym (map-append padded_property old last)))

retitled_again : (title : List ℕ) (values : List Property) →
    map padded_property (retitled (map padded_property (retitled
    values title)) title) ≡ map padded_property (retitled values title)
unfolding again
retitled_again title values =
    let new : List Property = retitled values title in
    let there = any_titled title values (list_any is_title_property values) refl in
    let in_places : List Property = map (in_place title) (map padded_property new) in
    ap (λ test. map padded_property (in_places ++ (if test then [] else title_property title ∷ []))) there
    ∙ (ap (map padded_property) (append-nil in_places)
    ∙ (ap (map padded_property) (map-map (in_place title) padded_property new)
    ∙ (map-map padded_property (λ p. in_place title (padded_property p)) new ∙ again_retitled title values)))

-- the same title once more changes no byte
pub twice_is_once : (b title : List ℕ) → IsAsked b title →
    retitled_stream (retitled_stream b title) title ≡ retitled_stream
    b title
twice_is_once b title asked =
    let new : List ℕ = retitled_stream b title in
    let kept : KeptBytes = kept_bytes b in
    let values : List Property = retitled (property_values b) title in
    let held = kept_with_title b title asked in
    ap (λ k. written_set k (retitled (property_values new) title)) held.kept_same
    ∙ (ap (λ vs. written_set kept (retitled vs title)) held.values_same
    ∙ (sym (written-padded kept (retitled (map padded_property values) title))
    ∙ (ap (λ vs. written_set kept vs) (retitled_again title (property_values b)) ∙ written-padded kept values)))
