-- The definition of acting in other words, and that there is one map and one modifier of a list.
use Rattle.std.proofs.Common.{◌≡◌, ℕ, ◌==◌, Bool, true, false, cond, not, ◌&&◌, ◌||◌, List, [], ◌∷◌, Option, Some}
use Rattle.std.proofs.Common.{None, refl, sym, ap, ◌∙◌, subst}
use Rattle.std.proofs.lemmas.List.Elements.{All-head, All-tail}
use Rattle.std.proofs.lemmas.Bool.{eqb-true}
use Rattle.std.specs.Ordering.{nat_cmp, eq_by_cmp}
use Rattle.std.specs.Cmp.{nat_cmp_total, unsigned_tied}
use Rattle.std.specs.List.{All, filter, last_or}
use Rattle.std.specs.FinMap.{get, get-insert, same_map, nat_cmp-IsAntisymmetric}
use Rattle.sprm_table.specs.declared.Class.{Class}
use Rattle.sprm_table.specs.declared.Class.TheVariants.{Plain, Toggle, Clear, Style, Refused}
use Rattle.sprm_table.specs.Codes.{is_held, class_of, is_property, is_clear}
use Rattle.sprm_table.specs.Sprm.{Prl}
use Rattle.prop_map.specs.Formed.{character_groups, paragraph_groups, IsMapEntry}
use Rattle.prop_map.specs.Acting.{is_kept_by_plain, sets_code, clears_code, concerns_code, left_by, value_after}
use Rattle.prop_map.specs.Laws.{SaidCodeByCode, ListsActInTurn, ActingIsOne, ModifierIsOne, PropertiesStayFormed}
use Rattle.prop_map.proofs.ActingLemmas.{value_after-append, style_of-append}
use Rattle.doc_bits.proofs.Public.{or_second}

pub acting_one : ActingIsOne
acting_one list groups old one other h k = same_map nat_cmp_total nat_cmp-IsAntisymmetric one other (λ code. h code ∙
    sym (k code))

pub modifier_one : ModifierIsOne
modifier_one list one other h k =
    let istd = h.style ∙ sym k.style in
    let clear = h.clear ∙ sym k.clear in
    let chp = acting_one list character_groups _ one.chp other.chp h.characters k.characters in
    let pap = acting_one list paragraph_groups _ one.pap other.pap h.marks k.marks in
    λ i. record { istd = istd i; clear = clear i; chp = chp i; pap = pap i }

pub act_in_turn : ListsActInTurn
act_in_turn first next groups = record {
  values = λ code before. value_after-append first next groups code before;
  style = style_of-append first next groups;
}

-- ---- a property put into a map

put_formed : (b : Bool) (here : List ℕ) (old : Option (List ℕ)) (value : List ℕ) (P : Type 0) →
    (b ≡ true → here ≡ value → P) → (old ≡ Some value → P) → cond b (Some here) old ≡ Some value → P
put_formed true here old value P same other e = same refl (cc)
put_formed false here old value P same other e = other e

pub stay_formed : PropertiesStayFormed
stay_formed groups map prl formed property code value e =
    put_formed (eq_by_cmp nat_cmp code prl.0) prl.1 (get map code) value (IsMapEntry groups (code, value))
    (λ tied here. let key = eqb-true code prl.0 (sym (unsigned_tied code prl.0) ∙ tied) in subst (IsMapEntry groups)
    (λ i. (sym key i, here i)) property)
    (formed code value)
    (sym (get-insert nat_cmp_total map prl.0 prl.1 code) ∙ e)

-- ---- acting said code by code

none_concern : (groups code : ℕ) (list : List Prl) → All (λ e. sets_code groups code e ≡ false) list →
    All (λ e. clears_code groups code e ≡ false) list → filter (concerns_code groups code) list ≡ []
none_concern groups code [] sets clears = refl
none_concern groups code (e ∷ es) sets clears =
    rw (
      All-head (λ e. sets_code groups code e ≡ false) e es sets,
      All-head (λ e. clears_code groups code e ≡ false) e
          es clears,
    )
    (none_concern groups code es (All-tail (λ e. sets_code groups code e ≡ false) e es sets)
    (All-tail (λ e. clears_code groups code e ≡ false) e es clears))

third : (a b c : Bool) → (a && (b && c)) ≡ true → c ≡ true
third true true c e = e
third true false c e = cc
third false b c e = cc

second : (a b c : Bool) → (a && (b && c)) ≡ true → b ≡ true
second true true c e = refl
second true false c e = cc
second false b c e = cc

clears_sets_none : (kind : Class) → is_clear kind ≡ true → is_property kind ≡ false
clears_sets_none Plain e = cc
clears_sets_none Toggle e = cc
clears_sets_none Clear e = refl
clears_sets_none Style e = refl
clears_sets_none Refused e = refl

-- an entry that removes a code leaves nothing there
one_removes : (groups code : ℕ) (prl : Prl) (before : Option (List ℕ)) → clears_code groups code prl ≡ true →
    value_after (prl ∷ []) groups code before ≡ None
one_removes groups code prl before clears =
    let concerns : concerns_code groups code prl ≡ true = or_second (sets_code groups code prl) (clears_code groups code
    prl) clears in
    let none = clears_sets_none (class_of prl.0) (second (is_held groups prl.0) (is_clear (class_of prl.0))
    (not (is_kept_by_plain code)) clears) in
    ap (λ b. left_by (last_or None (cond b (prl ∷ []) [])) before) concerns ∙ rw none refl

one_leaves_none : (groups code : ℕ) (prl : Prl) → sets_code groups code prl ≡ false → value_after (prl ∷ []) groups
    code None ≡ None
one_leaves_none groups code prl sets =
    elim (clears_code groups code prl) as (λ b. clears_code groups code prl ≡ b → value_after (prl ∷ []) groups code
    None ≡ None) [
      | true ↦ λ clears. one_removes groups code prl None clears
      | false ↦ λ clears. ap (λ b. left_by (last_or None (cond b (prl ∷ []) [])) None) (ap (λ b. b || clears_code
          groups code prl) sets ∙ clears)
    ] refl

leaves_none : (groups code : ℕ) (list : List Prl) → All (λ e. sets_code groups code e ≡ false) list → value_after list
    groups code None ≡ None
leaves_none groups code [] sets = refl
leaves_none groups code (e ∷ es) sets =
    value_after-append (e ∷ []) es groups code None
    ∙ (ap (value_after es groups code) (one_leaves_none groups code e (All-head (λ e. sets_code groups code e ≡ false)
    e es sets))
    ∙ leaves_none groups code es (All-tail (λ e. sets_code groups code e ≡ false) e es sets))

set_last : (groups code : ℕ) (prl : Prl) (back : List Prl) (before : Option (List ℕ)) → sets_code groups code prl ≡
    true → filter (concerns_code groups code) back ≡ [] → value_after (prl ∷ back) groups code before ≡ Some prl.1
set_last groups code prl back before sets none =
    let property = third (is_held groups prl.0) (code == prl.0) (is_property (class_of prl.0)) sets in
    let concerns : concerns_code groups code prl ≡ true = ap (λ b. b || clears_code groups code prl) sets in
    ap (λ b. left_by (last_or None (cond b (prl ∷ filter (concerns_code groups code) back)
    (filter (concerns_code groups code) back))) before) concerns
    ∙ (ap (λ l. left_by (last_or None (prl ∷ l)) before) none ∙ rw property refl)

pub code_by_code : SaidCodeByCode
code_by_code groups code before = record {
  set = λ front back prl sets none kept.
      value_after-append front (prl ∷ back) groups code before ∙ set_last groups code prl back (value_after front
      groups code before) sets (none_concern groups code back none kept);
  kept = λ list none kept. ap (λ l. left_by (last_or None l) before) (none_concern groups code list none kept);
  removed = λ front back prl clears none.
      value_after-append front (prl ∷ back) groups code before
      ∙ (value_after-append (prl ∷ []) back groups code (value_after front groups code before)
      ∙ (ap (value_after back groups code) (one_removes groups code prl (value_after front groups code before) clears)
      ∙ leaves_none groups code back none));
}
