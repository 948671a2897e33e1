-- The effective map of any layers is there.
use Rattle.std.proofs.Common.{◌≡◌, inl, inr, ℕ, Bool, true, false, cond, ◌||◌, List, [], ◌∷◌, ◌++◌, Option, Some, None}
use Rattle.std.proofs.Common.{refl, sym, ap, ◌∙◌, subst}
use Rattle.std.specs.Prelude.{is_some, ◌==◌, if◌then◌else◌}
use Rattle.std.specs.Ordering.{nat_cmp, eq_by_cmp}
use Rattle.std.specs.Cmp.{nat_cmp_total, unsigned_tied}
use Rattle.std.specs.List.{list_any, filter_map}
use Rattle.std.specs.FinMap.{get, insert, empty, keys, get-insert, get-empty, contains_key-keys}
use Rattle.std.proofs.lemmas.Bool.{cases_Bool, eqb-true}
use Rattle.sprm_table.specs.Codes.{class_of}
use Rattle.prop_map.specs.Settings.{Properties}
use Rattle.effective_props.specs.Values.{tabs_code, is_toggle, values_at, effective_value, IsEffectiveMap}

-- ---- a map with these values at these codes

-- the value at a code, where the map is to have one
put_value : Properties → ℕ → Option (List ℕ) → Properties
put_value map code None = map
put_value map code (Some value) = insert map code value

map_with : (ℕ → Option (List ℕ)) → List ℕ → Properties
map_with values [] = empty
map_with values (code ∷ codes) = put_value (map_with values codes) code (values code)

get_put : (map : Properties) (own code : ℕ) (put there : Option (List ℕ)) (same rest : Bool) →
    eq_by_cmp nat_cmp code own ≡ same → (same ≡ true → there ≡ put) → get map code ≡ cond rest there None →
    get (put_value map own put) code ≡ cond (same || rest) there None
unfolding put_value
get_put map own code None there true true ties equal is = is
get_put map own code None there true false ties equal is = is ∙ sym (equal refl)
get_put map own code None there false rest ties equal is = is
get_put map own code (Some value) there true rest ties equal is =
    get-insert nat_cmp_total map own value code
    ∙ (ap (λ b. cond b (Some value) (get map code)) ties ∙ sym (equal refl))
get_put map own code (Some value) there false rest ties equal is =
    get-insert nat_cmp_total map own value code
    ∙ (ap (λ b. cond b (Some value) (get map code)) ties ∙ is)

tied : (code own : ℕ) → eq_by_cmp nat_cmp code own ≡ true → code ≡ own
tied code own ties = eqb-true code own (sym (unsigned_tied code own) ∙ ties)

get_map_with : (values : ℕ → Option (List ℕ)) (codes : List ℕ) (code : ℕ) →
    get (map_with values codes) code ≡ cond (list_any (eq_by_cmp nat_cmp code) codes) (values code) None
unfolding map_with
get_map_with values [] code = get-empty nat_cmp code
get_map_with values (own ∷ codes) code =
    get_put (map_with values codes) own code (values own) (values code) (eq_by_cmp nat_cmp code own)
    (list_any (eq_by_cmp nat_cmp code) codes) refl (λ ties. ap values (tied code own ties))
    (get_map_with values codes code)

-- ---- the codes of all layers

all_codes : List Properties → List ℕ
all_codes [] = []
all_codes (layer ∷ layers) = keys layer ++ all_codes layers

any_both : (test : ℕ → Bool) (one other : List ℕ) → list_any test (one ++ other) ≡ list_any test one || list_any test other
any_both test [] other = refl
any_both test (x ∷ xs) other = elim (test x) as (λ b. b || list_any test (xs ++ other) ≡ (b || list_any test xs) ||
    list_any test other) [
      | true ↦ refl
      | false ↦ any_both test xs other
    ]

none_first : (a b : Bool) → a || b ≡ false → a ≡ false
none_first true b e = e
none_first false b e = refl

none_second : (a b : Bool) → a || b ≡ false → b ≡ false
none_second true b e = absurd (cc e)
none_second false b e = e

no_value : (o : Option (List ℕ)) → is_some o ≡ false → o ≡ None
no_value None e = refl
no_value (Some value) e = absurd (cc e)

none_at : (layers : List Properties) (code : ℕ) → list_any (eq_by_cmp nat_cmp code) (all_codes layers) ≡ false →
    values_at layers code ≡ []
unfolding all_codes
none_at [] code none = refl
none_at (layer ∷ layers) code none =
    let test = eq_by_cmp nat_cmp code in
    let split = sym (any_both test (keys layer) (all_codes layers)) ∙ none in
    let own = none_first (list_any test (keys layer)) (list_any test (all_codes layers)) split in
    let others = none_second (list_any test (keys layer)) (list_any test (all_codes layers)) split in
    let here : get layer code ≡ None = no_value (get layer code) (contains_key-keys layer code ∙ own) in
    let more = none_at layers code others in
    rw (here, more) refl

nothing : (tabs toggle : Bool) → ◌≡◌ {A = Option (List ℕ)} (if tabs then None else if toggle then None else None) None
nothing true toggle = refl
nothing false true = refl
nothing false false = refl

none_effective : (layers : List Properties) (code : ℕ) → values_at layers code ≡ [] →
    effective_value layers code ≡ None
none_effective layers code none = rw none (nothing (code == tabs_code) (is_toggle (class_of code)))

pub effective_there : (layers : List Properties) → (map : Properties) × IsEffectiveMap layers map
effective_there layers = (
  map_with (effective_value layers) (all_codes layers),
  λ code. elim
      (cases_Bool (list_any (eq_by_cmp nat_cmp code) (all_codes layers))) [
        | inl there ↦ get_map_with (effective_value layers) (all_codes layers) code ∙ ap (λ b. cond b (effective_value layers
            code) None) there
        | inr none ↦ get_map_with (effective_value layers) (all_codes layers) code ∙ (ap (λ b. cond b (effective_value layers
            code) None) none ∙ sym (none_effective layers code (none_at layers code none)))
      ],
)
