-- Values laid over one another.
use Rattle.std.proofs.Common.{◌≡◌, ℕ, ◌+◌, ◌<◌, ◌==◌, Bool, true, false, not, cond, List, [], ◌∷◌, ◌++◌, length, take}
use Rattle.std.proofs.Common.{get_or, Option, Some, None, IsTrue, refl, sym, ap, ◌∙◌, subst, arith, append_assoc}
use Rattle.std.proofs.Common.{length-append}
use Rattle.std.proofs.lemmas.List.{take_more, take_at, get_or_at, append-nil}
use Rattle.std.proofs.lemmas.List.Elements.{filter_map-append}
use Rattle.std.proofs.lemmas.List.Sums.{fold-append}
use Rattle.std.proofs.lemmas.Bool.{eqb-true}
use Rattle.std.specs.Ordering.{nat_cmp}
use Rattle.std.specs.Cmp.{nat_cmp_total, unsigned_tied}
use Rattle.std.specs.List.{filter_map, last_or}
use Rattle.std.specs.FinMap.{empty, get, get-empty, insert, find, is_sorted, get-insert}
use Rattle.std.specs.FinMap.Entries.{find-append}
use Rattle.sprm_table.specs.Codes.{class_of}
use Rattle.prop_map.specs.Settings.{Properties}
use Rattle.prop_map.specs.Entries.{Entries}
use Rattle.effective_props.specs.Toggles.{toggled}
use Rattle.effective_props.specs.Values.{tabs_code, is_toggle, values_at, combined_value, effective_value}
use Rattle.effective_props.specs.ValueSteps.{value_laid_over, layer_over, IsValueOver}
use Rattle.prop_map.proofs.Public.{find-earlier}

-- ---- one value

pub put_over : (code other : ℕ) (old : Properties) (value made : List ℕ) → (code == tabs_code) ≡ false →
    Some made ≡ value_laid_over code (get old code) value → get (insert old code made) other ≡ cond (other == code)
    (layer_over code (get old code) (Some value)) (get old other)
put_over code other old value made plain is =
    get-insert nat_cmp_total old code made other
    ∙ (ap (λ b. cond b (Some made) (get old other)) (unsigned_tied other code)
    ∙ ap (λ o. cond (other == code) o (get old other)) (is ∙ ap (λ b. cond b (get old code) (value_laid_over code
    (get old code) value)) (sym plain)))

-- ---- the values of one layer, in the order of their codes

-- the entries so far with one more
pub find-more : (es : Entries) (i : ℕ) (d : ℕ × List ℕ) (code : ℕ) → IsTrue (is_sorted nat_cmp es) → i < length es →
    find nat_cmp code (take (i + 1) es) ≡ cond (code == (get_or es i d).0) (Some (get_or es i d).1) (find nat_cmp code
    (take i es))
find-more es i d code h within =
    let e = get_or es i d in
    ap (find nat_cmp code) (take_more es i d within)
    ∙ (find-append nat_cmp nat_cmp_total (take i es) e.0 e.1 code (find-earlier es i d h within)
    ∙ ap (λ b. cond b (Some e.1) (find nat_cmp code (take i es))) (unsigned_tied code e.0))

-- the first i entries of a layer were laid over what was there
abbrev pub LaysUpTo : Entries → Properties → Properties → Type 0
LaysUpTo es old now = (code : ℕ) → get now code ≡ layer_over code (get old code) (find nat_cmp code es)

pub lay_more : (es : Entries) (i : ℕ) (d : ℕ × List ℕ) (old now new : Properties) → IsTrue (is_sorted nat_cmp es) →
    i < length es → LaysUpTo (take i es) old now → IsValueOver (get_or es i d).0 (get_or es i d).1 now new →
    LaysUpTo (take (i + 1) es) old new
lay_more es i d old now new h within upto step code =
    let e = get_or es i d in
    step code ∙ (elim (code == e.0) as (λ b. (code == e.0) ≡ b → cond b (layer_over e.0 (get now e.0) (Some e.1))
    (get now code) ≡ layer_over code (get old code) (cond b (Some e.1) (find nat_cmp code (take i es)))) [
      | true ↦ λ is.
          let key = eqb-true code e.0 is in
          let here = upto e.0 ∙ ap (layer_over e.0 (get old e.0)) (find-earlier es i d h within) in
          ap (λ o. layer_over e.0 o (Some e.1)) here ∙ ap (λ k. layer_over k (get old k) (Some e.1)) (sym key)
      | false ↦ λ is. upto code
    ] refl ∙ ap (layer_over code (get old code)) (sym (find-more es i d code h within)))

-- how far the entries of a layer were laid over what was there
pub record HasLaidUpTo (all : Entries) (old : Properties) (left : Entries) (now : Properties) : Type 0 where
  pub done : Entries
  pub joined : all ≡ done ++ left
  pub laid : LaysUpTo done old now

pub none_laid : (all left : Entries) (old : Properties) → all ≡ left → HasLaidUpTo all old left old
none_laid all left old e = record { done = []; joined = e; laid = λ code. refl }

pub laid_next : (all left : Entries) (old now new : Properties) (code : ℕ) (value : List ℕ) →
    IsTrue (is_sorted nat_cmp all) → HasLaidUpTo all old ((code, value) ∷ left) now → IsValueOver code value now new →
    HasLaidUpTo all old left new
laid_next all left old now new code value sorted h step =
    let entry : ℕ × List ℕ = (code, value) in
    let es : Entries = h.done ++ entry ∷ left in
    let i : ℕ = length h.done in
    let long = length-append h.done (entry ∷ left) in
    let within : i < length es = omega arith in
    let front : take i es ≡ h.done = take_at h.done (entry ∷ left) i refl in
    let here : get_or es i entry ≡ entry = get_or_at h.done entry left entry i refl in
    let more : take (i + 1) es ≡ h.done ++ entry ∷ [] = take_more es i entry within ∙ (ap (λ l. l ++ get_or es i entry
    ∷ []) front ∙ ap (λ (x : ℕ × List ℕ). h.done ++ x ∷ []) here) in
    let sorted_whole = subst (λ l. IsTrue (is_sorted nat_cmp l)) h.joined sorted in
    record {
      done = h.done ++ entry ∷ [];
      joined = h.joined ∙ sym (append_assoc h.done (entry ∷ []) left);
      laid = subst (λ l. LaysUpTo l old new) more
          (lay_more es i entry old now new sorted_whole within (subst (λ l. LaysUpTo l old now) (sym front) h.laid)
          (subst (λ (x : ℕ × List ℕ). IsValueOver x.0 x.1 now new) (sym here) step));
    }

pub laid_whole : (all : Entries) (old now : Properties) → HasLaidUpTo all old [] now → LaysUpTo all old now
laid_whole all old now h = subst (λ l. LaysUpTo l old now) (sym (h.joined ∙ append-nil h.done)) h.laid

-- ---- one more layer

pub last_of_more : (before : Option (List ℕ)) (values : List (List ℕ)) (value : List ℕ) →
    last_or before (values ++ value ∷ []) ≡ Some value
last_of_more before [] value = refl
last_of_more before (v ∷ values) value = last_of_more (Some v) values value

value_of_more : (code : ℕ) (values : List (List ℕ)) (value : List ℕ) → combined_value code (values ++ value ∷ []) ≡
    value_laid_over code (combined_value code values) value
value_of_more code values value =
    elim (is_toggle (class_of code)) as (λ b. cond b (toggle_of (values ++ value ∷ [])) (last_or None (values ++ value
    ∷ [])) ≡ cond b (toggled (cond b (toggle_of values) (last_or None values)) value) (Some value)) [
      | true ↦ fold-append toggled None values (value ∷ [])
      | false ↦ last_of_more None values value
    ]
  where
    toggle_of : List (List ℕ) → Option (List ℕ)
    toggle_of vs = combined_value 0x0835 vs

pub effective_more : (layers : List Properties) (layer : Properties) (code : ℕ) → effective_value (layers ++ layer ∷ [])
    code ≡ layer_over code (effective_value layers code) (get layer code)
effective_more layers layer code =
    let f : Properties → Option (List ℕ) = λ m. get m code in
    let values = values_at layers code in
    ap (λ vs. cond (code == tabs_code) None (combined_value code vs)) (filter_map-append f layers (layer ∷ []))
    ∙ elim (get layer code) as (λ o. cond (code == tabs_code) None (combined_value code (values ++ cons o)) ≡ layer_over
    code (cond (code == tabs_code) None (combined_value code values)) o) [
      | None ↦ ap (λ vs. cond (code == tabs_code) None (combined_value code vs)) (append-nil values)
      | Some value ↦ elim (code == tabs_code) as (λ b. cond b None (combined_value code (values ++ value ∷ [])) ≡ cond b
          (cond b None (combined_value code values)) (value_laid_over code (cond b None (combined_value code values))
          value)) [
            | true ↦ refl
            | false ↦ value_of_more code values value
          ]
    ]
  where
    cons : Option (List ℕ) → List (List ℕ)
    cons o = filter_map (λ x. x) (o ∷ [])

pub false_of : (b : Bool) → true ≡ not b → b ≡ false
false_of true e = cc
false_of false e = refl

pub none_put : (made : Properties) (code : ℕ) → made ≡ empty → get made code ≡ None
none_put made code e = ap (λ m. get m code) e ∙ get-empty nat_cmp code

no_value : Option (List ℕ)
no_value = None

either_none : (b c : Bool) → no_value ≡ cond b no_value (cond c no_value no_value)
unfolding no_value
either_none true c = refl
either_none false true = refl
either_none false false = refl

pub effective_none : (made : Properties) (code : ℕ) → made ≡ empty → get made code ≡ effective_value [] code
unfolding no_value
effective_none made code e = none_put made code e ∙ either_none (code == tabs_code) (is_toggle (class_of code))
