-- Properties that are on or off.
use Rattle.std.proofs.Common.{◌≡◌, ℕ, ◌==◌, ◌<◌, ◌≤◌, Bool, true, false, not, cond, List, [], ◌∷◌, length}
use Rattle.std.proofs.Common.{Option, None, Some, refl, ap, ◌∙◌, arith, rules}
use Rattle.std.proofs.lemmas.Bool.{eqb-true}
use Rattle.std.specs.List.{All}
use Rattle.std.proofs.lemmas.List.Elements.{All-get_or}
use Rattle.sprm_table.specs.Codes.{class_of}
use Rattle.effective_props.specs.Toggles.{is_byte, is_keep, is_turn, opposite, toggled}
use Rattle.effective_props.specs.Values.{tabs_code, is_toggle}
use Rattle.effective_props.specs.ValueSteps.{layer_over}
use Rattle.char_formats.specs.declared.flag.Flag.{Flag}
use Rattle.char_formats.specs.declared.flag.Flag.TheVariants.{Keep, Turn, Set}
use Rattle.char_formats.specs.Formats.{is_nonzero_value}
use Rattle.std.proofs.Common.{◌≢◌, ◌+◌, inl, inr, set, subst, get_or-set_same, get_or-set_other}
use Rattle.std.proofs.lemmas.Bool.{cases_lt}
use Rattle.char_formats.specs.Flags.{flag_at, flag_codes, code_at, does, flag_then, toggle_flag, flag_by, flag_after}

-- one change after another does what they do one after the other
pub does-then : (first next : Flag) (before : Bool) → does (flag_then first next) before ≡ does next (does first before)
does-then first Keep before = refl
does-then Keep Turn before = refl
does-then Turn Turn true = refl
does-then Turn Turn false = refl
does-then (Set on) Turn before = refl
does-then first (Set on) before = refl

set-opposite : (before : Option (List ℕ)) → is_nonzero_value (Some (opposite before)) ≡ not (is_nonzero_value before)
set-opposite None = refl
set-opposite (Some value) =
    elim (is_byte value 0) as (λ b. not (is_byte (cond b (1 ∷ []) (0 ∷ [])) 0) ≡ not (not b)) [
      | true ↦ refl
      | false ↦ refl
    ]

-- what a value of a toggle does
set-toggled : (before : Option (List ℕ)) (value : List ℕ) → is_nonzero_value (toggled before value) ≡ does (toggle_flag
    value)
    (is_nonzero_value before)
set-toggled before value =
    elim (is_keep value) as (λ k. is_nonzero_value (cond k before (cond (is_turn value) (Some (opposite before)) (Some
    value)))
    ≡ does (cond k Keep (cond (is_turn value) Turn (Set (is_nonzero_value (Some value))))) (is_nonzero_value before)) [
      | true ↦ refl
      | false ↦
          elim (is_turn value) as (λ t. is_nonzero_value (cond t (Some (opposite before)) (Some value))
          ≡ does (cond t Turn (Set (is_nonzero_value (Some value)))) (is_nonzero_value before)) [
            | true ↦ set-opposite before
            | false ↦ refl
          ]
    ]

-- what a value at a code does, which is not that of tab stops
pub set-layer_over : (code : ℕ) → (code == tabs_code) ≡ false → (before : Option (List ℕ)) (value : List ℕ) →
    is_nonzero_value
    (layer_over code before (Some value)) ≡ does (flag_by code value) (is_nonzero_value before)
set-layer_over code plain before value =
    ap (λ b. is_nonzero_value (cond b before (cond (is_toggle (class_of code)) (toggled before value) (Some value))))
    plain
    ∙ elim (is_toggle (class_of code)) as (λ t. is_nonzero_value (cond t (toggled before value) (Some value)) ≡ does
    (cond t
    (toggle_flag value) (Set (is_nonzero_value (Some value)))) (is_nonzero_value before)) [
      | true ↦ set-toggled before value
      | false ↦ refl
    ]

-- each of the codes
pub small_code : (i : ℕ) → i < 12 → code_at i ≤ 0x2A53
small_code i low =
    All-get_or (λ c. c ≤ 0x2A53) flag_codes i 0 low small
  where
    small : All (λ c. c ≤ 0x2A53) flag_codes
    small = search rules

pub plain_code : (i : ℕ) → i < 12 → (code_at i == tabs_code) ≡ false
plain_code i low = below_tabs (code_at i) (small_code i low)
  where
    below_tabs : (c : ℕ) → c ≤ 0x2A53 → (c == tabs_code) ≡ false
    below_tabs c small = elim (c == tabs_code) as (λ b. (c == tabs_code) ≡ b → b ≡ false) [
      | true ↦ λ e. let is : c ≡ tabs_code = eqb-true c tabs_code e in absurd (omega arith)
      | false ↦ λ _. refl
    ] refl

-- a value at a code behind all of these changes nothing
pub flag_after-large : (before : Flag) (own code : ℕ) (value : List ℕ) → own < code → flag_after before own code value ≡
    before
flag_after-large before own code value less =
    elim (own == code) as (λ b. (own == code) ≡ b → cond b (flag_then before (flag_by code value)) before ≡ before) [
      | true ↦ λ e. let is : own ≡ code = eqb-true own code e in absurd (omega arith)
      | false ↦ λ _. refl
    ] refl

-- a change is put in place of another
pub set_done : (now : List Flag) (i : ℕ) (made : Flag) (f : ℕ → Flag) → i < length now → made ≡ f i → ((k : ℕ) → k < i →
    flag_at now k ≡ f k) → (k : ℕ) → k < i + 1 → flag_at (set now i made) k ≡ f k
set_done now i made f within is done k low =
    elim (cases_lt k i) [
      | inl less ↦
          let apart : k ≢ i = (λ e. omega arith) in
          get_or-set_other now i k made Keep apart ∙ done k less
      | inr up ↦
          let e : i ≡ k = omega arith in
          subst (λ n. flag_at (set now i made) n ≡ f n) e (get_or-set_same now i made Keep within ∙ is)
    ]

-- and those behind it stay
pub set_rest : (now : List Flag) (i : ℕ) (made : Flag) (k : ℕ) → i + 1 ≤ k → flag_at (set now i made) k ≡ flag_at now k
set_rest now i made k behind =
    let apart : k ≢ i = (λ e. omega arith) in get_or-set_other now i k made Keep apart
