-- The values of an array, one after the other.
use Rattle.std.proofs.Common.{◌≡◌, ◌+◌, ◌<◌, ◌≤◌, ℕ, zero, suc, List, [], ◌∷◌, ◌++◌, length, map, take, get_or}
use Rattle.std.proofs.Common.{refl, sym, ap, ◌∙◌, subst, arith}
use Rattle.std.proofs.lemmas.List.{take_more, take_all, map-append, get_or-map}
use Rattle.std.proofs.Common.{All, length-take}
use Rattle.std.proofs.lemmas.List.{length-map}
use Rattle.serde_json.specs.Data.{Data, null, array}
use Rattle.serde_json.specs.View.{view, items_of}
use Rattle.serde_json.specs.declared.value.Value.{Value}
use Rattle.edit_script.specs.declared.faults.ShapeError.{ShapeError}
use Rattle.edit_script.specs.declared.faults.ShapeError.TheVariants.{Shape, Memory}
use Rattle.std.proofs.Common.{Err, ◌≢◌}
use Rattle.json_doc.specs.ReadValues.{ReadsValue, Tells}
use Rattle.json_doc.proofs.ReadLemmas.{list_unread}

-- one value more
pub more_values : (values : List Value) (i : ℕ) (value : Value) → i < length values → value ≡ get_or values i value →
    map view (take (i + 1) values) ≡ map view (take i values) ++ view value ∷ []
more_values values i value within is =
    ap (map view) (take_more values i value within)
    ∙ map-append view (take i values) (get_or values i value ∷ [])
    ∙ ap (λ v. map view (take i values) ++ view v ∷ []) (sym is)

-- the value at a place
pub at_value : (values : List Value) (i : ℕ) (value : Value) → i < length values → value ≡ get_or values i value →
    get_or (map view values) i null ≡ view value
at_value values i value within is = get_or-map view values i value null within ∙ ap view (sym is)

-- the first values
pub front_values : (values : List Value) (i : ℕ) → map view (take i values) ≡ take i (map view values)
front_values values zero = refl
front_values [] (suc i) = refl
front_values (v ∷ values) (suc i) = ap (λ more. view v ∷ more) (front_values values i)

pub all_values : (values : List Value) (i : ℕ) → length values ≤ i → map view (take i values) ≡ map view values
all_values values i all = ap (map view) (take_all i values all)

-- what comes of a misfit
pub reads_err : {A : Type 0} (json : A → Data) (Is : A → Type 0) (value : Data) (e : ShapeError) →
    (e ≡ Shape → (x : A) → Is x → value ≢ json x) → ReadsValue json Is value (Err e)
reads_err json Is value Shape none = none refl
reads_err json Is value Memory none = tt

pub tells_err : {A : Type 0} (json : A → Data) (Is : A → Type 0) (value : Data) (e : ShapeError) →
    (e ≡ Shape → (x : A) → Is x → value ≢ json x) → Tells json Is value (Err e)
tells_err json Is value Shape none = none refl
tells_err json Is value Memory none = tt

-- one of the values was not read
pub wrong_at : {A : Type 0} (json : A → Data) (Is : A → Type 0) (values : List Value) (i : ℕ) (value : Value) →
    i < length values → value ≡ get_or values i value → (e : ShapeError) → e ≡ Shape →
    ReadsValue json Is (view value) (Err e) → (xs : List A) → All Is xs →
    array (items_of (map view values)) ≢ array (items_of (map json xs))
wrong_at json Is values i value within is Shape shape none =
    list_unread json Is (map view values) i (omega (arith, within, length-map {B = Data} values))
    (λ x right. subst (λ d. d ≢ json x) (sym (at_value values i value within is)) (none x right))
wrong_at json Is values i value within is Memory shape none = absurd (cc (shape))

-- how many the first ones are
pub front_length : (values : List Value) (i : ℕ) → length (map view (take i values)) ≤ i
front_length values i = omega (arith, length-map {B = Data} (take i values), length-take i values)
