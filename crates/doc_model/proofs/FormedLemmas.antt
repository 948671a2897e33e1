-- Lists of well-formed entries, after a change.
use Rattle.std.proofs.Common.{ℕ, zero, suc, refl, arith, ◌≡◌, ◌+◌, ◌-◌, ◌<◌, ◌≤◌, ◌^◌, List, [], ◌∷◌, ◌++◌, length}
use Rattle.std.proofs.Common.{take, drop, set, length-append, length-take-le, length-drop, rules, ap, subst, Option}
use Rattle.std.proofs.Common.{Some, None, get_or, sym, ◌∙◌, length-take}
use Rattle.std.specs.Prelude.{slice_range}
use Rattle.std.proofs.lemmas.List.{take_more}
use Rattle.std.specs.List.{All, splice}
use Rattle.std.proofs.lemmas.List.Elements.{All-append, All-take, All-drop, All-set}
use Rattle.std.specs.Option.{IfSome, ForSome, unwrap_or}
use Rattle.prop_map.specs.Formed.{IsPropertyMap, character_groups, paragraph_groups, section_groups}
use Rattle.doc_model.specs.declared.item.Item.{Item}
use Rattle.doc_model.specs.Document.{IsFormedList, HasPropertyMaps}

-- one entry meets what its only entry meets
pub All-one : {X : Type 0} (P : X → Type 0) (x : X) → P x → All P (x ∷ [])
All-one P x p zero d h = p
All-one P x p (suc k) d h = absurd (omega (arith, h))

-- one more entry
pub IsFormedList-add : {X : Type 0} (P : X → Type 0) (xs ys : List X) (x : X) → ys ≡ xs ++ x ∷ [] →
    length xs + 1 < 2 ^ 32 → IsFormedList P xs → P x → IsFormedList P ys
IsFormedList-add P xs ys x is few formed one =
    rw is (record {
      few = omega (arith, length-append xs (x ∷ []));
      each = All-append P xs (x ∷ []) formed.each (All-one P x one);
    })

-- the length after a splice
pub length-splice : {X : Type 0} (xs fresh : List X) (from to : ℕ) → from ≤ to → to ≤ length xs →
    length (splice xs from to fresh) ≡ from + (length fresh + (length xs - to))
length-splice xs fresh from to ordered within =
    let short : from ≤ length xs = omega arith in
    rw (
      length-append (take from xs) (fresh ++ drop to xs),
      length-append fresh (drop to xs),
      length-take-le from xs short,
      length-drop to xs,
    ) refl

-- fresh entries in place of some
pub IsFormedList-splice : {X : Type 0} (P : X → Type 0) (xs ys fresh : List X) (from to : ℕ) →
    ys ≡ splice xs from to fresh → from ≤ to → to ≤ length xs
    → length xs + length fresh < 2 ^ 32 + (to - from) → IsFormedList P xs → IsFormedList P fresh → IsFormedList P ys
IsFormedList-splice P xs ys fresh from to is ordered within few formed new =
    rw is (record {
      few = omega (arith, length-splice xs fresh from to ordered within);
      each =
          All-append P (take from xs) (fresh ++ drop to xs) (All-take P from xs formed.each)
          (All-append P fresh (drop to xs) new.each (All-drop P to xs formed.each));
    })

-- some of the entries
pub IsFormedList-range : {X : Type 0} (P : X → Type 0) (xs ys : List X) (from to : ℕ) → ys ≡ slice_range xs from to →
    IsFormedList P xs → IsFormedList P ys
IsFormedList-range P xs ys from to is formed =
    rw is (record {
      few = omega (arith, length-take (to - from) (drop from xs), length-drop from xs, formed.few);
      each = All-take P (to - from) (drop from xs) (All-drop P from xs formed.each);
    })

-- one entry more of a range is copied
pub copied_more : {X : Type 0} (range made next : List X) (i : ℕ) (x : X) → made ≡ take i range →
    next ≡ made ++ x ∷ [] → x ≡ get_or range i x → i < length range → next ≡ take (i + 1) range
copied_more range made next i x so_far put is low =
    put ∙ (ap (λ l. l ++ x ∷ []) so_far ∙ (ap (λ y. take i range ++ y ∷ []) is ∙ sym (take_more range i x low)))

-- an entry in place of another
pub IsFormedList-set : {X : Type 0} (P : X → Type 0) (xs : List X) (i : ℕ) (x : X) → IsFormedList P xs → P x →
    IsFormedList P (set xs i x)
IsFormedList-set P xs i x formed one =
    record {
      few = search (rules, arith);
      each = All-set P xs i x one formed.each;
    }

-- ---- items

-- what is said by cases holds of whatever is there
pub ForSome-from_cases : {T : Type 0} (o : Option T) (P : T → Type 0) → IfSome o P → ForSome o P
ForSome-from_cases None P here x is = absurd (grind (arith, is))
ForSome-from_cases (Some y) P here x is = subst P (ap (λ o. unwrap_or o y) is) here

-- the maps of an item, each of its place
pub HasPropertyMaps-from_parts : (item : Item) → IsPropertyMap character_groups item.chp →
    IfSome item.mark (λ mark. IsPropertyMap paragraph_groups mark.pap) →
    IfSome item.sect (IsPropertyMap section_groups)
    → HasPropertyMaps item
HasPropertyMaps-from_parts item chp pap sect =
    record {
      chp = chp;
      pap = ForSome-from_cases item.mark (λ mark. IsPropertyMap paragraph_groups mark.pap) pap;
      sect = ForSome-from_cases item.sect (IsPropertyMap section_groups) sect;
    }
