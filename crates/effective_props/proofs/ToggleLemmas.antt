-- A toggle by its last value that goes by nothing.
use Rattle.std.proofs.Common.{◌≡◌, ℕ, ◌+◌, ◌%◌, ◌==◌, Bool, true, false, cond, ◌&&◌, ◌||◌, List, [], ◌∷◌, length}
use Rattle.std.proofs.Common.{slice_index, Option, Some, None, refl, sym, ap, ◌∙◌, arith}
use Rattle.std.proofs.lemmas.Bool.{eqb-true, eq-eqb}
use Rattle.std.proofs.lemmas.List.Elements.{All-head, All-tail}
use Rattle.std.proofs.lemmas.List.Sums.{fold-append, sum_by-cons}
use Rattle.std.specs.List.{fold, count_by}
use Rattle.effective_props.specs.Toggles.{is_byte, is_keep, is_turn, opposite, toggled, toggle_value}
use Rattle.effective_props.specs.Laws.{is_relative, AreRelative, turned_times, ToggleIsSaidByLastValue}
use Rattle.doc_bits.proofs.Public.{zero_more}

-- turning round three times is turning round once
opposite_thrice : (before : Option (List ℕ)) → opposite (Some (opposite (Some (opposite before)))) ≡ opposite before
opposite_thrice None = refl
opposite_thrice (Some value) = either (is_byte value 0)
  where
    either : (b : Bool) → opposite (Some (opposite (Some (cond b (1 ∷ []) (0 ∷ []))))) ≡ cond b (1 ∷ []) (0 ∷ [])
    either true = refl
    either false = refl

turned_next : (n : ℕ) (zero_now odd_now odd_next : Bool) (before : Option (List ℕ)) → (zero_now ≡ true →
    odd_next ≡ true) → (zero_now ≡ false → odd_now ≡ true → odd_next ≡ false) → (zero_now ≡ false → odd_now ≡ false →
    odd_next ≡ true) →
    cond zero_now (Some (opposite before)) (cond odd_now (Some (opposite (Some (opposite before))))
    (Some (opposite (Some (opposite (Some (opposite before)))))))
    ≡ cond odd_next (Some (opposite before)) (Some (opposite (Some (opposite before))))
turned_next n true b odd_next before first second third = rw (first refl) refl
turned_next n false true odd_next before first second third = rw (second refl refl) refl
turned_next n false false odd_next before first second third = rw (third refl refl) (ap Some (opposite_thrice before))

-- one more turn
turned_more : (n : ℕ) (before : Option (List ℕ)) → turned_times n (Some (opposite before)) ≡ turned_times (n + 1) before
turned_more n before =
    let next : ((n + 1) == 0) ≡ false = is_false (n + 1) 0 (omega arith) in
    turned_next n (n == 0) (n % 2 == 1) ((n + 1) % 2 == 1) before
    (λ z. let e = eqb-true n 0 z in eq-eqb ((n + 1) % 2) 1 (omega arith))
    (λ z o. let e = eqb-true (n % 2) 1 o in is_false ((n + 1) % 2) 1 (λ i. omega arith))
    (λ z o. eq-eqb ((n + 1) % 2) 1 (even_next n (not_equal (n % 2) 1 o)))
    ∙ ap (λ b. cond b before (cond ((n + 1) % 2 == 1) (Some (opposite before))
    (Some (opposite (Some (opposite before)))))) (sym next)
  where
    not_equal : (a b : ℕ) → (a == b) ≡ false → ¬ (a ≡ b)
    not_equal a b e is = absurd (cc (eq-eqb a b is, e))

    is_false : (a b : ℕ) → ¬ (a ≡ b) → (a == b) ≡ false
    is_false a b h = elim (a == b) as (λ t. (a == b) ≡ t → t ≡ false) [
      | true ↦ λ e. absurd (h (eqb-true a b e))
      | false ↦ λ e. refl
    ] refl

    even_next : (n : ℕ) → ¬ (n % 2 ≡ 1) → (n + 1) % 2 ≡ 1
    even_next n h = omega (arith, h)

keep_no_turn : (value : List ℕ) → is_keep value ≡ true → is_turn value ≡ false
keep_no_turn value e =
    let byte = eqb-true (slice_index value 0) 0x80 (second_of (length value == 1) (slice_index value 0 == 0x80) e) in
    apart (length value == 1) (slice_index value 0) byte
  where
    second_of : (a b : Bool) → (a && b) ≡ true → b ≡ true
    second_of true b e = e
    second_of false b e = cc

    apart : (a : Bool) (n : ℕ) → n ≡ 0x80 → (a && (n == 0x81)) ≡ false
    apart true n e = rw e refl
    apart false n e = refl

count_more : (value : List ℕ) (values : List (List ℕ)) (b : Bool) → is_turn value ≡ b → count_by is_turn
    (value ∷ values) ≡ cond b 1 0 + count_by is_turn values
count_more value values b e = sum_by-cons (λ x. cond (is_turn x) 1 0) value values ∙ ap (λ t. cond t 1 0 + count_by
    is_turn values) e

one_before : (n : ℕ) → 1 + n ≡ n + 1
one_before n = omega arith

pub turned_all : (values : List (List ℕ)) (before : Option (List ℕ)) → AreRelative values → fold toggled before values
    ≡ turned_times (count_by is_turn values) before
turned_all [] before all = refl
turned_all (value ∷ values) before all =
    let here = All-head (λ v. is_relative v ≡ true) value values all in
    let rest = All-tail (λ v. is_relative v ≡ true) value values all in
    let n = count_by is_turn values in
    elim (is_keep value) as (λ b. is_keep value ≡ b → fold toggled before (value ∷ values) ≡ turned_times (count_by
    is_turn
    (value ∷ values)) before) [
      | true ↦ λ keep.
          ap (λ b. fold toggled (cond b before (cond (is_turn value) (Some (opposite before)) (Some value))) values)
          keep
          ∙ (turned_all values before rest ∙ ap (λ m. turned_times m before) (sym (count_more value values false
          (keep_no_turn value keep) ∙ zero_more n)))
      | false ↦ λ keep.
          let turn : is_turn value ≡ true = ap (λ b. b || is_turn value) (sym keep) ∙ here in
          ap (λ b. fold toggled (cond b before (cond (is_turn value) (Some (opposite before)) (Some value))) values)
          keep
          ∙ (ap (λ b. fold toggled (cond b (Some (opposite before)) (Some value)) values) turn
          ∙ (turned_all values (Some (opposite before)) rest
          ∙ (turned_more n before ∙ ap (λ m. turned_times m before) (sym (count_more value values true turn ∙ one_before
          n)))))
    ] refl

set_here : (before : Option (List ℕ)) (value : List ℕ) → is_relative value ≡ false → toggled before value ≡ Some value
set_here before value e = either (is_keep value) (is_turn value) e
  where
    either : (b c : Bool) → (b || c) ≡ false → cond b before (cond c (Some (opposite before)) (Some value)) ≡ Some value
    either true c e = cc
    either false true e = cc
    either false false e = refl

pub toggle_said : ToggleIsSaidByLastValue
toggle_said values = record {
  set = λ front back value is sets all.
      ap toggle_value is ∙ (fold-append toggled None front (value ∷ back)
      ∙ (ap (λ o. fold toggled o back) (set_here (toggle_value front) value sets) ∙ turned_all back (Some value) all));
  none = λ all. turned_all values None all;
}
