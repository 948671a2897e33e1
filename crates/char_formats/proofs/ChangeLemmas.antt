-- Changes and what they are of.
use Rattle.std.proofs.Common.{◌≡◌, ℕ, ◌==◌, ◌<◌, true, false, cond, List, length, Option, None, Some, refl, sym}
use Rattle.std.proofs.Common.{ap, ◌∙◌}
use Rattle.std.specs.Option.{option_or, unwrap_or}
use Rattle.std.proofs.lemmas.Bool.{eqb-true, eq-eqb}
use Rattle.effective_props.specs.ValueSteps.{layer_over}
use Rattle.char_formats.specs.declared.change.Change.{Change}
use Rattle.char_formats.specs.declared.flag.Flag.{Flag}
use Rattle.char_formats.specs.declared.format.Position.{Position}
use Rattle.char_formats.specs.declared.format.Symbol.{Symbol}
use Rattle.char_formats.specs.Formats.{font_of, is_nonzero_value, position_of, symbol_of, format_in}
use Rattle.char_formats.specs.Flags.{code_at, flag_at, does, flag_then, flag_by, flag_after}
use Rattle.char_formats.specs.Changes.{Act, with_value, instead, IsChangeOf}
use Rattle.char_formats.proofs.FlagLemmas.{does-then, set-layer_over, plain_code}

-- acts that agree have the same changes
pub same_act : (one other : Act) (change : Change) → ((code : ℕ) (before : Option (List ℕ)) → one code before ≡ other
    code before) → IsChangeOf one change → IsChangeOf other change
same_act one other change agree h = record {
  count = h.count;
  flags = λ i low before. ap is_nonzero_value (sym (agree (code_at i) before)) ∙ h.flags i low before;
  position = λ before. ap position_of (sym (agree 0x2A48 before)) ∙ h.position before;
  symbol = λ before. ap symbol_of (sym (agree 0x6A09 before)) ∙ h.symbol before;
  font = λ before. ap font_of (sym (agree 0x4A51 before)) ∙ h.font before;
}

instead-or : {A : Type 0} (next first : Option A) (before : A) → instead (option_or next first) before ≡ instead next
    (instead first before)
instead-or None first before = refl
instead-or (Some after) first before = refl

pub instead-unwrap : {A : Type 0} (o : Option A) (before : A) → unwrap_or o before ≡ instead o before
instead-unwrap None before = refl
instead-unwrap (Some after) before = refl

-- one change after another
pub change-then : (first next made : Change) (one other : Act) → length made.flags ≡ 12 → ((i : ℕ) → i < 12 → flag_at
    made.flags i ≡ flag_then (flag_at first.flags i) (flag_at next.flags i)) → made.position ≡ option_or next.position
    first.position → made.symbol ≡ option_or next.symbol first.symbol → made.font ≡ option_or next.font first.font →
    IsChangeOf one first → IsChangeOf other next → IsChangeOf (λ code before. other code (one code before)) made
change-then first next made one other count flags position symbol font h k = record {
  count = count;
  flags = λ i low before.
      k.flags i low (one (code_at i) before) ∙ (ap (does (flag_at next.flags i)) (h.flags i low before)
      ∙ (sym (does-then (flag_at first.flags i) (flag_at next.flags i) (is_nonzero_value before))
      ∙ ap (λ f. does f (is_nonzero_value before)) (sym (flags i low))));
  position = λ before.
      k.position (one 0x2A48 before) ∙ (ap (instead next.position) (h.position before)
      ∙ (sym (instead-or next.position first.position (position_of before))
      ∙ ap (λ o. instead o (position_of before)) (sym position)));
  symbol = λ before.
      k.symbol (one 0x6A09 before) ∙ (ap (instead next.symbol) (h.symbol before)
      ∙ (sym (instead-or next.symbol first.symbol (symbol_of before))
      ∙ ap (λ o. instead o (symbol_of before)) (sym symbol)));
  font = λ before.
      k.font (one 0x4A51 before) ∙ (ap (instead next.font) (h.font before)
      ∙ (sym (instead-or next.font first.font (font_of before)) ∙ ap (λ o. instead o (font_of before)) (sym font)));
}

test_turned : (a b : ℕ) → (a == b) ≡ (b == a)
test_turned a b =
    elim (a == b) as (λ t. (a == b) ≡ t → t ≡ (b == a)) [
      | true ↦ λ e. sym (eq-eqb b a (sym (eqb-true a b e)))
      | false ↦ λ e. elim (b == a) as (λ t. (b == a) ≡ t → false ≡ t) [
        | true ↦ λ f. sym e ∙ eq-eqb a b (sym (eqb-true b a f))
        | false ↦ λ _. refl
      ] refl
    ] refl

flag_laid : (act : Act) (old : Flag) (i code : ℕ) (value : List ℕ) (before : Option (List ℕ)) → i < 12 →
    is_nonzero_value (act
    (code_at i) before) ≡ does old (is_nonzero_value before) → is_nonzero_value (with_value code value act (code_at i)
    before) ≡ does
    (flag_after old (code_at i) code value) (is_nonzero_value before)
flag_laid act old i code value before low h =
    elim (code_at i == code) as (λ b. (code_at i == code) ≡ b → is_nonzero_value (cond b (layer_over (code_at i) (act
    (code_at i)
    before) (Some value)) (act (code_at i) before)) ≡ does (cond b (flag_then old (flag_by code value)) old)
    (is_nonzero_value
    before)) [
      | true ↦ λ e.
          set-layer_over (code_at i) (plain_code i low) (act (code_at i) before) value
          ∙ (ap (λ c. does (flag_by c value) (is_nonzero_value (act (code_at i) before))) (eqb-true (code_at i) code e)
          ∙ (ap (does (flag_by code value)) h ∙ sym (does-then old (flag_by code value) (is_nonzero_value before))))
      | false ↦ λ _. h
    ] refl

position_laid : (act : Act) (old : Option Position) (code : ℕ) (value : List ℕ) (before : Option (List ℕ)) → position_of
    (act 0x2A48 before) ≡ instead old (position_of before) → position_of (with_value code value act 0x2A48 before) ≡
    instead (cond (code == 0x2A48) (Some (position_of (Some value))) old) (position_of before)
position_laid act old code value before h =
    rw (test_turned code 0x2A48) (elim (0x2A48 == code) as (λ b. position_of (cond b (layer_over 0x2A48 (act 0x2A48
    before) (Some value)) (act 0x2A48 before)) ≡ instead (cond b (Some (position_of (Some value))) old) (position_of
    before)) [
      | true ↦ refl
      | false ↦ h
    ])

symbol_laid : (act : Act) (old : Option (Option Symbol)) (code : ℕ) (value : List ℕ) (before : Option (List ℕ)) → symbol_of
    (act 0x6A09 before) ≡ instead old (symbol_of before) → symbol_of (with_value code value act 0x6A09 before) ≡ instead
    (cond (code == 0x6A09) (Some (symbol_of (Some value))) old) (symbol_of before)
symbol_laid act old code value before h =
    rw (test_turned code 0x6A09) (elim (0x6A09 == code) as (λ b. symbol_of (cond b (layer_over 0x6A09 (act 0x6A09
    before) (Some value)) (act 0x6A09 before)) ≡ instead (cond b (Some (symbol_of (Some value))) old) (symbol_of
    before)) [
      | true ↦ refl
      | false ↦ h
    ])

font_laid : (act : Act) (old : Option (Option ℕ)) (code : ℕ) (value : List ℕ) (before : Option (List ℕ)) → font_of
    (act 0x4A51 before) ≡ instead old (font_of before) → font_of (with_value code value act 0x4A51 before) ≡ instead
    (cond (code == 0x4A51) (Some (font_of (Some value))) old) (font_of before)
font_laid act old code value before h =
    rw (test_turned code 0x4A51) (elim (0x4A51 == code) as (λ b. font_of (cond b (layer_over 0x4A51 (act 0x4A51
    before) (Some value)) (act 0x4A51 before)) ≡ instead (cond b (Some (font_of (Some value))) old) (font_of
    before)) [
      | true ↦ refl
      | false ↦ h
    ])

-- a value at a code after a change
pub change-laid : (old new : Change) (code : ℕ) (value : List ℕ) (act : Act) → length new.flags ≡ 12 → ((i : ℕ) → i < 12
    → flag_at new.flags i ≡ flag_after (flag_at old.flags i) (code_at i) code value) → new.position ≡ cond (code ==
    0x2A48) (Some (position_of (Some value))) old.position → new.symbol ≡ cond (code == 0x6A09) (Some (symbol_of (Some
    value))) old.symbol → new.font ≡ cond (code == 0x4A51) (Some (font_of (Some value))) old.font → IsChangeOf act old →
    IsChangeOf (with_value code value act) new
change-laid old new code value act count flags position symbol font h = record {
  count = count;
  flags = λ i low before.
      flag_laid act (flag_at old.flags i) i code value before low (h.flags i low before)
      ∙ ap (λ f. does f (is_nonzero_value before)) (sym (flags i low));
  position = λ before.
      position_laid act old.position code value before (h.position before)
      ∙ ap (λ o. instead o (position_of before)) (sym position);
  symbol = λ before.
      symbol_laid act old.symbol code value before (h.symbol before)
      ∙ ap (λ o. instead o (symbol_of before)) (sym symbol);
  font = λ before.
      font_laid act old.font code value before (h.font before) ∙ ap (λ o. instead o (font_of before)) (sym font);
}

-- a property that was off before a change
pub on-after : (act : Act) (change : Change) → IsChangeOf act change → (i : ℕ) → i < 12 → does (flag_at change.flags i)
    false ≡ is_nonzero_value (act (code_at i) None)
on-after act change h i low = sym (h.flags i low None)

-- functions that agree have the same format
pub format_in-same : (picture : Option ℕ) (one other : ℕ → Option (List ℕ)) → ((code : ℕ) → one code ≡ other code) →
    format_in picture one ≡ format_in picture other
unfolding format_in
format_in-same picture one other same =
    rw (
      same 0x0835,
      same 0x0836,
      same 0x2A3E,
      same 0x0837,
      same 0x2A53,
      same 0x083A,
      same 0x083B,
      same 0x2A48,
      same
          0x083C,
      same 0x0855,
      same 0x0806,
      same 0x080A,
      same 0x0856,
      same 0x6A09,
      same 0x4A51,
    )
