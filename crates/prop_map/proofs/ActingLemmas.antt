-- Acting with one list and then another, with a list of one entry, and what stays true of a map.
use Rattle.std.proofs.Common.{◌≡◌, ℕ, ◌==◌, Bool, true, false, cond, not, ◌&&◌, ◌||◌, List, [], ◌∷◌, ◌++◌, Option}
use Rattle.std.proofs.Common.{Some, None, option_map, IfSome, refl, sym, ap, ◌∙◌, subst}
use Rattle.std.proofs.lemmas.List.Elements.{filter-append, filter_passes, All-filter, All-head, All-tail}
use Rattle.std.specs.Ordering.{nat_cmp, eq_by_cmp}
use Rattle.std.specs.Option.{option_or}
use Rattle.std.specs.Cmp.{unsigned_tied}
use Rattle.std.specs.List.{All, filter, last_or}
use Rattle.std.specs.FinMap.{get, empty, get-empty}
use Rattle.std.proofs.lemmas.Bool.{eqb-true}
use Rattle.sprm_table.specs.declared.Class.{Class}
use Rattle.sprm_table.specs.declared.Class.TheVariants.{Plain, Toggle, Clear, Style, Refused}
use Rattle.sprm_table.specs.Codes.{is_held, class_of, is_property, is_clear}
use Rattle.sprm_table.specs.Sprm.{Prl, IsPrl}
use Rattle.prop_map.specs.Settings.{Properties}
use Rattle.doc_bits.specs.Number.{AreBytes}
use Rattle.prop_map.specs.Formed.{IsMapEntry, IsPropertyMap}
use Rattle.prop_map.specs.Acting.{is_kept_by_plain, concerns_code, left_by, value_after, names_style, style_named}
use Rattle.prop_map.specs.Acting.{ArePropertiesAfter}

-- ---- the last of two lists

pub last_or_both : (o : Option Prl) (xs ys : List Prl) → last_or o (xs ++ ys) ≡ last_or (last_or o xs) ys
last_or_both o [] ys = refl
last_or_both o (x ∷ xs) ys = last_or_both (Some x) xs ys

or_some : (a o : Option Prl) (x : Prl) → option_or (option_or a (Some x)) o ≡ option_or a (Some x)
or_some None o x = refl
or_some (Some a) o x = refl

last_or_else : (o : Option Prl) (xs : List Prl) → last_or o xs ≡ option_or (last_or None xs) o
last_or_else o [] = refl
last_or_else o (x ∷ xs) = let e = last_or_else (Some x) xs in rw e (sym (or_some (last_or None xs) o x))

last_of_two : (p : Prl → Bool) (xs ys : List Prl) → last_or None (filter p (xs ++ ys)) ≡ option_or (last_or None
    (filter p ys)) (last_or None (filter p xs))
last_of_two p xs ys = ap (last_or None) (filter-append p xs ys) ∙ (last_or_both None (filter p xs) (filter p ys) ∙
    last_or_else _ (filter p ys))

left_twice : (first next : Option Prl) (before : Option (List ℕ)) → left_by (option_or next first) before ≡ left_by
    next (left_by first before)
left_twice first None before = refl
left_twice first (Some prl) before = refl

-- acting with two lists joined is acting with the first and then with the second
pub value_after-append : (first next : List Prl) (groups code : ℕ) (before : Option (List ℕ)) →
    value_after (first ++ next) groups code before ≡ value_after next groups code (value_after first groups code before)
value_after-append first next groups code before =
    ap (λ o. left_by o before) (last_of_two (concerns_code groups code) first next) ∙ left_twice (last_or None
    (filter (concerns_code groups code) first)) (last_or None (filter (concerns_code groups code) next)) before

map_either : (f : Prl → ℕ) (a o : Option Prl) → option_map f (option_or a o) ≡ option_or (option_map f a)
    (option_map f o)
map_either f None o = refl
map_either f (Some a) o = refl

pub style_of-append : (first next : List Prl) (groups : ℕ) → style_named (first ++ next) groups ≡ option_or
    (style_named next groups) (style_named first groups)
style_of-append first next groups = ap (option_map _) (last_of_two (names_style groups) first next) ∙ map_either _
    (last_or None (filter (names_style groups) next)) (last_or None (filter (names_style groups) first))

-- ---- a list of one entry

-- it sets
pub value_after-set : (groups code key : ℕ) (value : List ℕ) (before : Option (List ℕ)) → is_held groups key ≡ true →
    is_property (class_of key) ≡ true → is_clear (class_of key) ≡ false → cond (eq_by_cmp nat_cmp code key)
    (Some value) before ≡ value_after ((key, value) ∷ []) groups code before
value_after-set groups code key value before held sets clears =
    rw (held, clears, unsigned_tied code key)
    (elim (code == key) as (λ b. cond b (Some value) before ≡ left_by (last_or None
    (cond ((b && is_property (class_of key)) || false) ((key, value) ∷ []) [])) before) [
      | true ↦ rw (sets, sets) refl
      | false ↦ refl
    ])

clear_case : (b kept : Bool) (prl : Prl) (before : Option (List ℕ)) → is_property (class_of prl.0) ≡ false →
    cond kept before None ≡ left_by (last_or None (cond ((b && false) || not kept) (prl ∷ []) [])) before
clear_case true true prl before sets = refl
clear_case true false prl before sets = rw sets refl
clear_case false true prl before sets = refl
clear_case false false prl before sets = rw sets refl

-- it clears
pub value_after-clear : (groups code key : ℕ) (value : List ℕ) (before : Option (List ℕ)) → is_held groups key ≡
    true → is_property (class_of key) ≡ false → is_clear (class_of key) ≡ true → cond (is_kept_by_plain code) before
    None ≡
    value_after ((key, value) ∷ []) groups code before
value_after-clear groups code key value before held sets clears = rw (held, sets, clears) (clear_case (code == key)
    (is_kept_by_plain code) (key, value) before sets)

-- ---- what stays true

pub last_has : (P : Prl → Type 0) (xs : List Prl) (x : Prl) (o : Option Prl) → IfSome o P → All P xs →
    last_or o xs ≡ Some x → P x
last_has P [] x o h all e = subst (λ r. IfSome r P) e h
last_has P (y ∷ ys) x o h all e = last_has P ys x (Some y) (All-head P y ys all) (All-tail P y ys all) e

pub sets_not_clears : (kind : Class) → is_property kind ≡ true → is_clear kind ≡ false
sets_not_clears Plain h = refl
sets_not_clears Toggle h = refl
sets_not_clears Clear h = cc
sets_not_clears Style h = refl
sets_not_clears Refused h = refl

-- an entry that sets and concerns a code is held, and has the code
concern_case : (held same sets clears other : Bool) → sets ≡ true → clears ≡ false → ((held && (same && sets)) ||
    (held && (clears && other))) ≡ true → (held ≡ true) × (same ≡ true)
concern_case true true sets clears other s c e = (refl, refl)
concern_case true false sets clears other s c e = absurd (let f : (false || (true && (false && other))) ≡ true = rw c
    at e in cc)
concern_case false same sets clears other s c e = absurd (cc)

set_value : (b : Bool) (v w : List ℕ) → cond b (Some v) None ≡ Some w → (b ≡ true) × (v ≡ w)
set_value true v w e = (refl, cc)
set_value false v w e = absurd (cc)

-- the value of an entry is bytes
abbrev pub HasByteValue : Prl → Type 0
HasByteValue prl = AreBytes prl.1

formed_from : (groups code : ℕ) (value : List ℕ) (list : List Prl) (before : Option (List ℕ)) (last : Option Prl) →
    last_or None (filter (concerns_code groups code) list) ≡ last → All IsPrl list → All HasByteValue list →
    (before ≡ Some value → IsMapEntry groups (code, value)) → left_by last before ≡ Some value → IsMapEntry groups
    (code, value)
formed_from groups code value list before None was entries values old e = old e
formed_from groups code value list before (Some prl) was entries values old e =
    let sets = set_value (is_property (class_of prl.0)) prl.1 value e in
    let entry = last_has IsPrl (filter (concerns_code groups code) list) prl None tt (All-filter (concerns_code groups
    code) IsPrl list entries) was in
    let bytes = last_has HasByteValue (filter (concerns_code groups code) list) prl None tt (All-filter (concerns_code
    groups code) HasByteValue list values) was in
    let concerns = last_has (λ x. concerns_code groups code x ≡ true) (filter (concerns_code groups code) list) prl
    None tt (filter_passes (concerns_code groups code) list) was in
    let facts = concern_case (is_held groups prl.0) (code == prl.0) (is_property (class_of prl.0))
    (is_clear (class_of prl.0)) (not (is_kept_by_plain code)) sets.0 (sets_not_clears (class_of prl.0) sets.0) concerns
    in
    let key = eqb-true code prl.0 facts.1 in
    let same : prl ≡ (code, value) = λ i. (sym key i, sets.1 i) in
    subst (IsMapEntry groups) same (record {
      property = record { entry = entry; held = facts.0; sets = sets.0 };
      bytes = bytes;
    })

-- a list whose values are bytes puts into a map only what a map may hold
pub IsPropertyMap-after : (list : List Prl) (groups : ℕ) (old new : Properties) → All IsPrl list → All HasByteValue
    list → ArePropertiesAfter list groups old new → IsPropertyMap groups old → IsPropertyMap groups new
IsPropertyMap-after list groups old new entries values after formed code value e =
    formed_from groups code value list (get old code) (last_or None (filter (concerns_code groups code) list)) refl
    entries values (formed code value) (sym (after code) ∙ e)

-- the empty map holds nothing
pub IsPropertyMap-empty : (groups : ℕ) → IsPropertyMap groups empty
IsPropertyMap-empty groups code value e = absurd (let f : None ≡ Some value = sym (get-empty nat_cmp code) ∙ e in cc)
