-- Arrays are read value by value as what they were written for, and from no other value.
use Rattle.std.proofs.Common.{◌≡◌, ◌+◌, ◌<◌, ◌≤◌, ℕ, zero, suc, true, List, [], ◌∷◌, ◌++◌, Option, Some, None}
use Rattle.std.proofs.Common.{map, refl, sym, ap, ◌∙◌, subst, arith, All, is_some, length, get_or, take}
use Rattle.std.specs.Prelude.{⊤}
use Rattle.std.proofs.lemmas.List.{length-map}
use Rattle.std.proofs.lemmas.Option.{none-some, same_Some}
use Rattle.serde_json.specs.Data.{Data, null, boolean, number, string, array, object, Items, no_items, item}
use Rattle.serde_json.specs.View.{items_of, items_view, view}
use Rattle.serde_json.specs.declared.value.Value.{Value}
use Rattle.serde_json.specs.Find.{as_array, as_null}
use Rattle.edit_script.specs.Json.{◌>>=◌, each_of}
use Rattle.json_values.specs.Plain.{HasKeysInOrder, ItemsHaveKeysInOrder}
use Rattle.json_doc.specs.StyleReading.{list_as}
use Rattle.json_doc.proofs.ReadLemmas.{All-cons}
use Rattle.json_doc.proofs.RowLemmas.{AreOne, then_found, then_lost}
use Rattle.json_doc.proofs.ValueLemmas.{more_values, at_value, all_values}
use Rattle.json_values.proofs.Public.{step_found}

pub array_is : (value : Data) (items : Items) → as_array value ≡ Some items → value ≡ array items
array_is null items e = absurd (none-some items e)
array_is (boolean b) items e = absurd (none-some items e)
array_is (number n) items e = absurd (none-some items e)
array_is (string s) items e = absurd (none-some items e)
array_is (array others) items e = ap array (same_Some others items e)
array_is (object ms) items e = absurd (none-some items e)

pub null_is : (value : Data) → is_some (as_null value) ≡ true → value ≡ null
null_is null e = refl
null_is (boolean b) e = absurd (cc (e))
null_is (number n) e = absurd (cc (e))
null_is (string s) e = absurd (cc (e))
null_is (array items) e = absurd (cc (e))
null_is (object ms) e = absurd (cc (e))

All-rest : {A : Type 0} (P : A → Type 0) (x : A) (xs : List A) → All P (x ∷ xs) → All P xs
All-rest P x xs all k d less = all (suc k) d (omega (arith, less))

all_back : {A : Type 0} {of : Data → Option A} {json : A → Data} {Is : A → Type 0} → AreOne of json Is →
    (xs : List A) → All Is xs → each_of of (items_of (map json xs)) ≡ Some xs
all_back laws [] all = refl
all_back {of = of} {json} {Is} laws (x ∷ xs) all =
    then_found (of (json x)) (λ first. each_of of (items_of (map json xs)) >>= λ others. Some (first ∷ others)) x (x ∷
    xs) (laws.back x (all zero x (omega arith)))
    (then_found (each_of of (items_of (map json xs))) (λ others. Some (x ∷ others)) xs (x ∷ xs)
    (all_back laws xs (All-rest Is x xs all)) refl)

all_one : {A : Type 0} {of : Data → Option A} {json : A → Data} {Is : A → Type 0} → AreOne of json Is →
    (items : Items) (xs : List A) → ItemsHaveKeysInOrder items → each_of of items ≡ Some xs →
    All Is xs × (items ≡ items_of (map json xs))
all_one {json = json} {Is} laws no_items xs order e =
    subst (λ ys. All Is ys × (no_items ≡ items_of (map json ys))) (same_Some [] xs e)
    ((λ k d less. absurd (omega (arith, less))), refl)
all_one {of = of} {json} {Is} laws (item d more) xs order e =
    let a = step_found (of d) (λ first. each_of of more >>= λ others. Some (first ∷ others)) xs e in
    let b = step_found (each_of of more) (λ others. Some (a.0 ∷ others)) xs a.2 in
    let first = laws.one d a.0 order.0 a.1 in
    let rest = all_one laws more b.0 order.1 b.1 in
    subst (λ ys. All Is ys × (item d more ≡ items_of (map json ys))) (same_Some (a.0 ∷ b.0) xs b.2)
    (All-cons Is a.0 b.0 first.0 rest.0, λ i. item (first.1 i) (rest.1 i))

pub lists_one : {A : Type 0} {of : Data → Option A} {json : A → Data} {Is : A → Type 0} → AreOne of json Is →
    AreOne (list_as of) (λ xs. array (items_of (map json xs))) (All Is)
lists_one {of = of} {json} {Is} laws = record {
  back = all_back laws;
  one = λ value xs order e.
      let a = step_found (as_array value) (each_of of) xs e in
      let is = array_is value a.0 a.1 in
      let one = all_one laws a.0 xs (subst HasKeysInOrder is order) a.2 in (one.0, is ∙ ap array one.1);
}

-- ---- values that were read one after the other

abbrev pub AreGiven : {A : Type 0} → (Data → Option A) → List Data → List A → Type 0
AreGiven of [] [] = ⊤
AreGiven of [] (x ∷ xs) = ⊥
AreGiven of (d ∷ ds) [] = ⊥
AreGiven of (d ∷ ds) (x ∷ xs) = (of d ≡ Some x) × AreGiven of ds xs

pub given_more : {A : Type 0} (of : Data → Option A) (ds : List Data) (xs : List A) (d : Data) (x : A) →
    AreGiven of ds xs → of d ≡ Some x → AreGiven of (ds ++ d ∷ []) (xs ++ x ∷ [])
given_more of [] [] d x before one = (one, tt)
given_more of [] (y ∷ ys) d x before one = absurd before
given_more of (c ∷ cs) [] d x before one = absurd before
given_more of (c ∷ cs) (y ∷ ys) d x before one = (before.0, given_more of cs ys d x before.1 one)

pub given_each : {A : Type 0} (of : Data → Option A) (ds : List Data) (xs : List A) → AreGiven of ds xs →
    each_of of (items_of ds) ≡ Some xs
given_each of [] [] given = refl
given_each of [] (x ∷ xs) given = absurd given
given_each of (d ∷ ds) [] given = absurd given
given_each of (d ∷ ds) (x ∷ xs) given =
    then_found (of d) (λ first. each_of of (items_of ds) >>= λ others. Some (first ∷ others)) x (x ∷ xs) given.0
    (then_found (each_of of (items_of ds)) (λ others. Some (x ∷ others)) xs (x ∷ xs) (given_each of ds xs given.1) refl)

pub given_one : {A : Type 0} {of : Data → Option A} {json : A → Data} {Is : A → Type 0} → AreOne of json Is →
    (ds : List Data) (xs : List A) → AreGiven of ds xs →
    HasKeysInOrder (array (items_of ds)) → All Is xs × (array (items_of ds) ≡ array (items_of (map json xs)))
given_one {of = of} laws ds xs given order =
    let one = all_one laws (items_of ds) xs order (given_each of ds xs given) in (one.0, ap array one.1)

-- they are those that the values were made for
pub given_same : {A : Type 0} {of : Data → Option A} {json : A → Data} {Is : A → Type 0} → AreOne of json Is →
    (ds : List Data) (xs ys : List A) → AreGiven of ds xs → All Is ys → ds ≡ map json ys → xs ≡ ys
given_same {of = of} {json} laws ds xs ys given all e =
    same_Some xs ys (sym (given_each of ds xs given) ∙ ap (λ l. each_of of (items_of l)) e ∙ all_back laws ys all)

-- ---- one value is read as nothing

lost_behind : {A : Type 0} (o : Option A) (others : Option (List A)) → others ≡ None →
    (o >>= λ first. others >>= λ more. Some (first ∷ more)) ≡ None
lost_behind None others lost = refl
lost_behind (Some x) others lost = then_lost (λ more. Some (x ∷ more)) lost

each_lost : {A : Type 0} (of : Data → Option A) (ds : List Data) (i : ℕ) → i < length ds →
    of (get_or ds i null) ≡ None → each_of of (items_of ds) ≡ None
each_lost of [] i within none = absurd (omega (arith, within))
each_lost of (d ∷ ds) zero within none =
    then_lost (λ first. each_of of (items_of ds) >>= λ more. Some (first ∷ more)) none
each_lost of (d ∷ ds) (suc i) within none =
    lost_behind (of d) (each_of of (items_of ds)) (each_lost of ds i (omega (arith, within)) none)

-- ---- the same of the values of a slice

pub value_lost : {A : Type 0} (of : Data → Option A) (values : List Value) (i : ℕ) (value : Value) →
    i < length values → value ≡ get_or values i value → of (view value) ≡ None →
    each_of of (items_view values) ≡ None
value_lost of values i value within is none =
    each_lost of (map view values) i (omega (arith, within, length-map {B = Data} values))
    (subst (λ d. of d ≡ None) (sym (at_value values i value within is)) none)

-- the values up to before a place were read as these
abbrev pub FrontGiven : {A : Type 0} → (Data → Option A) → List Value → ℕ → List A → Type 0
FrontGiven of values i xs = AreGiven of (map view (take i values)) xs

pub front_more : {A : Type 0} (of : Data → Option A) (values : List Value) (i : ℕ) (value : Value) (xs : List A)
    (x : A) (more : List A) → i < length values → value ≡ get_or values i value → FrontGiven of values i xs →
    of (view value) ≡ Some x → more ≡ xs ++ x ∷ [] → FrontGiven of values (i + 1) more
front_more of values i value xs x more within is before one grown =
    subst (λ ys. AreGiven of (map view (take (i + 1) values)) ys) (sym grown)
    (subst (λ ds. AreGiven of ds (xs ++ x ∷ [])) (sym (more_values values i value within is))
    (given_more of (map view (take i values)) xs (view value) x before one))

pub front_all : {A : Type 0} (of : Data → Option A) (values : List Value) (i : ℕ) (xs : List A) →
    length values ≤ i → FrontGiven of values i xs → each_of of (items_view values) ≡ Some xs
front_all of values i xs all before =
    given_each of (map view values) xs (subst (λ ds. AreGiven of ds xs) (all_values values i all) before)
