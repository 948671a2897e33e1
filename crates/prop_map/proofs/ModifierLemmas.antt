-- What a modifier does, one put over another, and that of a list.
use Rattle.std.proofs.Common.{◌≡◌, ℕ, ◌==◌, Bool, true, false, cond, not, ◌&&◌, ◌||◌, List, [], ◌∷◌, Option, Some}
use Rattle.std.proofs.Common.{None, refl, sym, ap, ◌∙◌}
use Rattle.std.proofs.lemmas.List.Elements.{All-nil, All-cons, All-filter, filter_passes}
use Rattle.std.specs.Option.{option_or, unwrap_or}
use Rattle.std.specs.List.{All, filter, last_or, list_any}
use Rattle.std.specs.FinMap.{get, get-empty}
use Rattle.std.specs.Ordering.{nat_cmp}
use Rattle.std.proofs.lemmas.Bool.{eqb-true}
use Rattle.doc_bits.proofs.Public.{both_true, and_false}
use Rattle.sprm_table.specs.declared.Class.TheVariants.{Plain, Toggle, Clear, Style, Refused}
use Rattle.sprm_table.specs.Codes.{is_held, is_code_among, toggles, refused_codes, class_of, is_property, is_clear}
use Rattle.sprm_table.specs.Sprm.{Prl}
use Rattle.prop_map.specs.declared.modifiers.Modifier.{Modifier}
use Rattle.prop_map.specs.Settings.{Properties}
use Rattle.prop_map.specs.Formed.{IsMapEntry, IsPropertyMap, character_groups, paragraph_groups}
use Rattle.prop_map.specs.Acting.{is_kept_by_plain, concerns_code, left_by, value_after}
use Rattle.prop_map.specs.Modifiers.{value_over, clears_characters, IsModifierOf, DoesAsListed, IsComposed, ActsInTurn}
use Rattle.prop_map.proofs.ActingLemmas.{last_has}

-- ---- one after the other

over_twice : (later earlier before : Option (List ℕ)) (first next kept : Bool) →
    option_or (option_or later (cond (next && not kept) None earlier)) (cond ((first || next) && not kept) None
    before) ≡ option_or later (cond (next && not kept) None (option_or earlier (cond (first && not kept) None before)))
over_twice (Some v) earlier before first next kept = refl
over_twice None (Some v) before first true true = refl
over_twice None (Some v) before true true false = refl
over_twice None (Some v) before false true false = refl
over_twice None (Some v) before first false kept = refl
over_twice None None before true true true = refl
over_twice None None before false true true = refl
over_twice None None before true true false = refl
over_twice None None before false true false = refl
over_twice None None before true false kept = refl
over_twice None None before false false kept = refl

style_twice : (later earlier : Option ℕ) (istd : ℕ) → unwrap_or (option_or later earlier) istd ≡ unwrap_or later
    (unwrap_or earlier istd)
style_twice None earlier istd = refl
style_twice (Some later) earlier istd = refl

or_assoc : (a b c : Option (List ℕ)) → option_or (option_or a b) c ≡ option_or a (option_or b c)
or_assoc None b c = refl
or_assoc (Some a) b c = refl

pub acts_in_turn : (first next made : Modifier) → IsComposed first next made → ActsInTurn first next made
acts_in_turn first next made h = record {
  characters = λ code before.
      ap (λ o. option_or o (cond (made.clear && not (is_kept_by_plain code)) None before)) (h.chp code)
      ∙ (ap (λ b. option_or (value_over next.clear code (get next.chp code) (get first.chp code))
      (cond (b && not (is_kept_by_plain code)) None before)) h.clear
      ∙ over_twice (get next.chp code) (get first.chp code) before first.clear next.clear (is_kept_by_plain code));
  marks = λ code before. ap (λ o. option_or o before) (h.pap code) ∙ or_assoc (get next.pap code) (get first.pap code)
      before;
  style = λ istd. ap (λ o. unwrap_or o istd) h.istd ∙ style_twice next.istd first.istd istd;
}

-- ---- formed maps

unless : (b : Bool) (before : Option (List ℕ)) (value : List ℕ) → cond b None before ≡ Some value → before ≡ Some value
unless true before value e = cc
unless false before value e = e

from_over : (over before : Option (List ℕ)) (clear : Bool) (code : ℕ) (value : List ℕ) (P : Type 0) → value_over clear
    code over before ≡ Some value → (over ≡ Some value → P) → (before ≡ Some value → P) → P
from_over (Some v) before clear code value P e later earlier = later e
from_over None before clear code value P e later earlier = earlier (unless (clear && not (is_kept_by_plain code)) before
    value e)

pub IsPropertyMap-over : (groups : ℕ) (clear : Bool) (top base made : Properties) → ((code : ℕ) → get made code ≡
    value_over clear code (get top code) (get base code)) → IsPropertyMap groups top → IsPropertyMap groups base →
    IsPropertyMap groups made
IsPropertyMap-over groups clear top base made over later earlier code value e =
    from_over (get top code) (get base code) clear code value (IsMapEntry groups (code, value)) (sym (over code) ∙ e)
    (later code value) (earlier code value)

-- ---- the modifier of a list

last_some : (x : Prl) (xs : List Prl) → last_or (Some x) xs ≡ None → ⊥
last_some x [] e = cc
last_some x (y ∷ ys) e = last_some y ys e

none_listed : (p q : Prl → Bool) (xs : List Prl) → ((x : Prl) → q x ≡ true → p x ≡ true) → last_or None (filter p xs)
    ≡ None → list_any q xs ≡ false
none_listed p q [] implies e = refl
none_listed p q (x ∷ xs) implies e =
    elim (p x) as (λ b. p x ≡ b → last_or None (cond b (x ∷ filter p xs) (filter p xs)) ≡ None →
    (q x || list_any q xs) ≡ false) [
      | true ↦ λ t e. absurd (last_some x (filter p xs) e)
      | false ↦ λ t e.
          elim (q x) as (λ b. q x ≡ b → (b || list_any q xs) ≡ false) [
            | true ↦ λ s. absurd (let both = implies x s in cc)
            | false ↦ λ s. none_listed p q xs implies e
          ] refl
    ] refl e

unlisted : (q : Prl → Bool) (xs : List Prl) → list_any q xs ≡ false → All (λ x. q x ≡ false) xs
unlisted q [] e = All-nil (λ x. q x ≡ false)
unlisted q (x ∷ xs) e = let both = neither (q x) (list_any q xs) e in All-cons (λ x. q x ≡ false) x xs both.0
    (unlisted q xs both.1)
  where
    neither : (a b : Bool) → (a || b) ≡ false → (a ≡ false) × (b ≡ false)
    neither true b e = absurd (cc)
    neither false b e = (refl, e)

-- an entry that clears characters concerns each code that is not kept
clears_concern : (held same sets clears kept : Bool) → kept ≡ false → (held && clears) ≡ true →
    ((held && (same && sets)) || (held && (clears && not kept))) ≡ true
clears_concern true true true true false k e = refl
clears_concern true true false true false k e = refl
clears_concern true false sets true false k e = refl
clears_concern true same sets false kept k e = cc
clears_concern true same sets clears true k e = cc
clears_concern false same sets clears kept k e = cc

-- an entry that concerns a code and does not set it clears it
concern_clears : (held same sets clears kept : Bool) → sets ≡ false → ((held && (same && sets)) ||
    (held && (clears && not kept))) ≡ true → ((held && clears) ≡ true) × (kept ≡ false)
concern_clears true true true clears kept s e = cc
concern_clears true true false true false s e = (refl, refl)
concern_clears true false sets true false s e = (refl, refl)
concern_clears true true false true true s e = cc
concern_clears true false sets true true s e = cc
concern_clears true true false false kept s e = cc
concern_clears true false sets false kept s e = cc
concern_clears false same sets clears kept s e = cc

unkept : (prls : List Prl) (code : ℕ) (kept : Bool) → is_kept_by_plain code ≡ kept →
    last_or None (filter (concerns_code character_groups code) prls) ≡ None → (clears_characters prls && not kept) ≡
    false
unkept prls code true k was = and_false (clears_characters prls)
unkept prls code false k was =
    rw (none_listed (concerns_code character_groups code) (λ prl. is_held character_groups prl.0 && is_clear
    (class_of prl.0)) prls
    (λ x h. clears_concern (is_held character_groups x.0) (code == x.0) (is_property (class_of x.0))
    (is_clear (class_of x.0)) (is_kept_by_plain code) k h) was) refl

listed : (q : Prl → Bool) (xs : List Prl) (x : Prl) → ((All (λ y. q y ≡ false) xs) → q x ≡ false) → q x ≡ true →
    list_any q xs ≡ true
listed q xs x none here =
    elim (list_any q xs) as (λ b. list_any q xs ≡ b → b ≡ true) [
      | true ↦ λ e. refl
      | false ↦ λ e. absurd (let no = none (unlisted q xs e) in cc)
    ] refl

character_case : (prls : List Prl) (code : ℕ) (before : Option (List ℕ)) (last : Option Prl) →
    last_or None (filter (concerns_code character_groups code) prls) ≡ last → value_over (clears_characters prls) code
    (left_by last None) before ≡ left_by last before
character_case prls code before None was = rw (unkept prls code (is_kept_by_plain code) refl was) refl
character_case prls code before (Some prl) was =
    elim (is_property (class_of prl.0)) as (λ b. is_property (class_of prl.0) ≡ b → value_over (clears_characters prls)
    code (cond b (Some prl.1) None) before ≡ cond b (Some prl.1) None) [
      | true ↦ λ s. refl
      | false ↦ λ s.
          let concerns = last_has (λ x. concerns_code character_groups code x ≡ true)
          (filter (concerns_code character_groups code) prls) prl None tt (filter_passes (concerns_code
          character_groups code) prls) was in
          let facts = concern_clears (is_held character_groups prl.0) (code == prl.0) (is_property (class_of prl.0))
          (is_clear (class_of prl.0)) (is_kept_by_plain code) s concerns in
          let clears = listed (λ x. is_held character_groups x.0 && is_clear (class_of x.0)) prls prl
          (λ all. last_has (λ x. (is_held character_groups x.0 && is_clear (class_of x.0)) ≡ false)
          (filter (concerns_code character_groups code) prls) prl None tt (All-filter (concerns_code
          character_groups code) (λ x. (is_held character_groups x.0 && is_clear (class_of x.0)) ≡ false) prls
          all) was)
          facts.0 in
          rw (clears, facts.1) refl
    ] refl

others_not_clear : (a b c : Bool) → is_clear (cond a Style (cond b Toggle (cond c Refused Plain))) ≡ false
others_not_clear true b c = refl
others_not_clear false true c = refl
others_not_clear false false true = refl
others_not_clear false false false = refl

-- a mark's place does not hold what clears characters
clear_not_marked : (code : ℕ) → is_clear (class_of code) ≡ true → is_held paragraph_groups code ≡ false
clear_not_marked code h =
    elim (code == 0x2A33) as (λ b. (code == 0x2A33) ≡ b → is_clear (cond b Clear (cond (code == 0x4600) Style
    (cond (is_code_among code toggles) Toggle (cond (is_code_among code refused_codes) Refused Plain)))) ≡ true →
    is_held paragraph_groups code ≡ false) [
      | true ↦ λ t h. let e = eqb-true code 0x2A33 t in rw e refl
      | false ↦ λ t h. absurd (let f = others_not_clear (code == 0x4600) (is_code_among code toggles) (is_code_among
          code
          refused_codes) in cc)
    ] refl h

mark_case : (prls : List Prl) (code : ℕ) (before : Option (List ℕ)) (last : Option Prl) →
    last_or None (filter (concerns_code paragraph_groups code) prls) ≡ last → option_or (left_by last None) before ≡
    left_by last before
mark_case prls code before None was = refl
mark_case prls code before (Some prl) was =
    elim (is_property (class_of prl.0)) as (λ b. is_property (class_of prl.0) ≡ b → option_or (cond b (Some prl.1) None)
    before ≡ cond b (Some prl.1) None) [
      | true ↦ λ s. refl
      | false ↦ λ s.
          let concerns = last_has (λ x. concerns_code paragraph_groups code x ≡ true)
          (filter (concerns_code paragraph_groups code) prls) prl None tt (filter_passes (concerns_code
          paragraph_groups code) prls) was in
          let facts = concern_clears (is_held paragraph_groups prl.0) (code == prl.0) (is_property (class_of prl.0))
          (is_clear (class_of prl.0)) (is_kept_by_plain code) s concerns in
          let both = both_true (is_held paragraph_groups prl.0) (is_clear (class_of prl.0)) facts.0 in
          absurd (let none = clear_not_marked prl.0 both.1 in let held = both.0 in cc)
    ] refl

-- the modifier of a list does what the list does
pub does_as_listed : (prls : List Prl) (modifier : Modifier) → IsModifierOf prls modifier → DoesAsListed prls modifier
does_as_listed prls modifier h = record {
  characters = λ code before.
      let chp : get modifier.chp code ≡ value_after prls character_groups code None = h.characters code ∙ ap
      (value_after prls character_groups code) (get-empty nat_cmp code) in
      ap (λ o. value_over modifier.clear code o before) chp
      ∙ (ap (λ b. value_over b code (value_after prls character_groups code None) before) h.clear
      ∙ character_case prls code before (last_or None (filter (concerns_code character_groups code) prls)) refl);
  marks = λ code before.
      let pap : get modifier.pap code ≡ value_after prls paragraph_groups code None = h.marks code ∙ ap (value_after
      prls paragraph_groups code) (get-empty nat_cmp code) in
      ap (λ o. option_or o before) pap ∙ mark_case prls code before (last_or None
      (filter (concerns_code paragraph_groups code) prls)) refl;
  style = λ istd. ap (λ o. unwrap_or o istd) h.style;
}
