-- What well-formed layers make is well formed.
use Rattle.std.proofs.Common.{◌≡◌, ℕ, ◌==◌, ◌&&◌, slice_index, Bool, true, false, cond, List, [], ◌∷◌, length, Option}
use Rattle.std.proofs.Common.{Some, None, refl, sym, ◌∙◌, subst, arith}
use Rattle.std.proofs.lemmas.List.Elements.{All-nil, All-cons, All-head, All-tail}
use Rattle.std.proofs.lemmas.Bool.{eqb-true}
use Rattle.std.specs.List.{All, cons_option, last_or, fold}
use Rattle.std.specs.FinMap.{get}
use Rattle.sprm_table.specs.Codes.{class_of}
use Rattle.sprm_table.specs.Operands.{size_of, IsSizeOf}
use Rattle.prop_map.specs.Settings.{Properties}
use Rattle.doc_bits.specs.Number.{AreBytes}
use Rattle.doc_bits.proofs.Public.{one_byte}
use Rattle.prop_map.specs.Formed.{IsMapEntry, IsPropertyMap}
use Rattle.effective_props.specs.Toggles.{is_byte, is_keep, is_turn, opposite, toggled, toggle_value}
use Rattle.effective_props.proofs.PlaceLemmas.{some_is}
use Rattle.effective_props.specs.Values.{tabs_code, is_toggle, values_at, combined_value, effective_value}
use Rattle.effective_props.specs.Values.{IsEffectiveMap}

-- each value that is there may be at the code
abbrev pub IfProperty : ℕ → ℕ → Option (List ℕ) → Type 0
IfProperty groups code o = (value : List ℕ) → o ≡ Some value → IsMapEntry groups (code, value)

-- other bytes of the same length may be there too
same_length : (groups code : ℕ) (a b : List ℕ) → length a ≡ length b → AreBytes b → IsMapEntry groups (code, a) →
    IsMapEntry groups (code, b)
same_length groups code a b e bytes h = record {
  property = record {
    entry = record {
      some = h.property.entry.some;
      word = h.property.entry.word;
      size = subst (λ n. IsSizeOf (size_of code) n) e h.property.entry.size;
    };
    held = h.property.held;
    sets = h.property.sets;
  };
  bytes = bytes;
}

opposite_bytes : (before : Option (List ℕ)) → AreBytes (opposite before)
opposite_bytes None = one_byte 1 (omega arith)
opposite_bytes (Some value) = elim (is_byte value 0) as (λ b. AreBytes (cond b (1 ∷ []) (0 ∷ []))) [
  | true ↦ one_byte 1 (omega arith)
  | false ↦ one_byte 0 (omega arith)
]

length_opposite : (before : Option (List ℕ)) → length (opposite before) ≡ 1
length_opposite None = refl
length_opposite (Some value) = length_one (is_byte value 0) 1 0
  where
    length_one : (b : Bool) (x y : ℕ) → length (cond b (x ∷ []) (y ∷ [])) ≡ 1
    length_one true x y = refl
    length_one false x y = refl

length_byte : (value : List ℕ) (byte : ℕ) → is_byte value byte ≡ true → length value ≡ 1
length_byte value byte e = eqb-true (length value) 1 (first_of (length value == 1) (slice_index value 0 == byte) e)
  where
    first_of : (a b : Bool) → (a && b) ≡ true → a ≡ true
    first_of true b e = refl
    first_of false b e = e

property_toggled : (groups code : ℕ) (before : Option (List ℕ)) (value : List ℕ) → IfProperty groups code before →
    IsMapEntry groups (code, value) → IfProperty groups code (toggled before value)
property_toggled groups code before value old h =
    elim (is_keep value) as (λ b. IfProperty groups code (cond b before (cond (is_turn value) (Some (opposite before))
    (Some value)))) [
      | true ↦ old
      | false ↦ elim (is_turn value) as (λ b. is_turn value ≡ b → IfProperty groups code
          (cond b (Some (opposite before)) (Some value))) [
            | true ↦ λ turn v e. subst (λ w. IsMapEntry groups (code, w)) (some_is (opposite before) v e) (same_length
                groups code value (opposite before) (length_byte value 0x81 turn ∙ sym (length_opposite before))
                (opposite_bytes before) h)
            | false ↦ λ turn v e. subst (λ w. IsMapEntry groups (code, w)) (some_is value v e) h
          ] refl
    ]

property_fold : (groups code : ℕ) (values : List (List ℕ)) (before : Option (List ℕ)) → IfProperty groups code before →
    All (λ v. IsMapEntry groups (code, v)) values → IfProperty groups code (fold toggled before values)
property_fold groups code [] before old all = old
property_fold groups code (v ∷ values) before old all =
    property_fold groups code values (toggled before v) (property_toggled groups code before v old
    (All-head (λ w. IsMapEntry groups (code, w)) v values all)) (All-tail (λ w. IsMapEntry groups (code, w)) v
    values all)

property_last : (groups code : ℕ) (values : List (List ℕ)) (before : Option (List ℕ)) → IfProperty groups code before →
    All (λ v. IsMapEntry groups (code, v)) values → IfProperty groups code (last_or before values)
property_last groups code [] before old all = old
property_last groups code (v ∷ values) before old all =
    property_last groups code values (Some v) (λ w e. subst (λ x. IsMapEntry groups (code, x)) (some_is v w e)
    (All-head (λ w. IsMapEntry groups (code, w)) v values all)) (All-tail (λ w. IsMapEntry groups (code, w)) v
    values all)

property_none : (groups code : ℕ) → IfProperty groups code None
property_none groups code value e = cc

properties_at : (groups code : ℕ) (layers : List Properties) → All (IsPropertyMap groups) layers →
    All (λ v. IsMapEntry groups (code, v)) (values_at layers code)
properties_at groups code [] all = All-nil (λ v. IsMapEntry groups (code, v))
properties_at groups code (layer ∷ layers) all =
    let rest = properties_at groups code layers (All-tail (IsPropertyMap groups) layer layers all) in
    let here = All-head (IsPropertyMap groups) layer layers all in
    elim (get layer code) as (λ o. get layer code ≡ o → All (λ v. IsMapEntry groups (code, v)) (cons_option o
    (values_at layers code))) [
      | None ↦ λ e. rest
      | Some v ↦ λ e. All-cons (λ w. IsMapEntry groups (code, w)) v (values_at layers code) (here code v e) rest
    ] refl

pub effective_formed : (groups : ℕ) (layers : List Properties) (map : Properties) → All (IsPropertyMap groups) layers →
    IsEffectiveMap layers map → IsPropertyMap groups map
effective_formed groups layers m all is code value e =
    let values = values_at layers code in
    let properties = properties_at groups code layers all in
    let there : effective_value layers code ≡ Some value = sym (is code) ∙ e in
    elim (code == tabs_code) as (λ b. cond b None (combined_value code values) ≡ Some value → IsMapEntry groups (
      code,
      value,
    )) [
      | true ↦ λ t. cc
      | false ↦ elim (is_toggle (class_of code)) as (λ b. cond b (toggle_value values) (last_or None values) ≡ Some
          value → IsMapEntry groups (code, value)) [
            | true ↦ property_fold groups code values None (property_none groups code) properties value
            | false ↦ property_last groups code values None (property_none groups code) properties value
          ]
    ] there
