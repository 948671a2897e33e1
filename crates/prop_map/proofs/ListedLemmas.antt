-- The list that a modifier is printed as: it has no fault, and it is read back as the modifier.
use Rattle.std.proofs.Common.{◌≡◌, ℕ, ◌<◌, ◌==◌, Bool, true, false, cond, not, ◌&&◌, ◌||◌, List, [], ◌∷◌, ◌++◌}
use Rattle.std.proofs.Common.{Option, Some, None, MatchOption, refl, sym, ap, ◌∙◌, subst, arith}
use Rattle.std.specs.Bool.{⊤}
use Rattle.std.proofs.lemmas.List.{append-nil}
use Rattle.std.proofs.lemmas.List.Elements.{All-nil, All-cons, All-head, All-tail, All-append}
use Rattle.std.proofs.lemmas.List.Folds.{list_any-append}
use Rattle.std.specs.Ordering.{nat_cmp}
use Rattle.std.specs.Option.{option_or}
use Rattle.std.specs.List.{All, filter, last_or}
use Rattle.std.specs.FinMap.{get, get-entries, get-empty, entries, entries_sorted}
use Rattle.doc_bits.specs.Number.{number_bytes, u16_at}
use Rattle.doc_bits.proofs.Public.{length-number_bytes, number_at-number_bytes}
use Rattle.sprm_table.specs.Codes.{is_held, class_of, is_property, is_clear, IsRefusedIn}
use Rattle.sprm_table.specs.Sprm.{Prl, IsPrl, IsProperty, SpellsSprmList, IsAcceptedList}
use Rattle.sprm_table.proofs.Public.{spelt_unique, spells_joined}
use Rattle.prop_map.specs.declared.modifiers.Modifier.{Modifier}
use Rattle.prop_map.specs.Settings.{Properties}
use Rattle.prop_map.specs.Formed.{IsPropertyMap, character_groups, paragraph_groups, prc_groups}
use Rattle.prop_map.specs.Acting.{is_kept_by_plain, concerns_code, left_by, value_after, style_named}
use Rattle.prop_map.specs.Modifiers.{clears_characters, style_prls, clear_prls, modifier_prls, printed_modifier}
use Rattle.prop_map.specs.Modifiers.{IsModifierOf, IsFormedModifier}
use Rattle.prop_map.proofs.ActingLemmas.{value_after-append, style_of-append, sets_not_clears}
use Rattle.prop_map.proofs.PrintLemmas.{prls_of, properties_of, none_refused, value_after-entries}
use Rattle.prop_map.proofs.PrintLemmas.{style_of-entries}
use Rattle.prop_map.proofs.GroupLemmas.{character_apart, paragraph_apart}

-- ---- each part alone

-- entries that the place does not hold concern no code
unheld : (held sets clears same other : Bool) → held ≡ false → ((held && (same && sets)) ||
    (held && (clears && other))) ≡ false
unheld false sets clears same other h = refl
unheld true sets clears same other h = cc

none_held : (groups held code : ℕ) → ((key : ℕ) → is_held held key ≡ true → is_held groups key ≡ false) →
    (es : List Prl) → All (IsProperty held) es → filter (concerns_code groups code) es ≡ []
none_held groups held code apart [] all = refl
none_held groups held code apart (e ∷ es) all =
    let property = All-head (IsProperty held) e es all in
    rw (unheld (is_held groups e.0) (is_property (class_of e.0)) (is_clear (class_of e.0)) (code == e.0)
    (not (is_kept_by_plain code)) (apart e.0 property.held)) (none_held groups held code apart es (All-tail (IsProperty
    held)
    e es all))

unheld_keeps : (groups held code : ℕ) (es : List Prl) (before : Option (List ℕ)) → ((key : ℕ) → is_held held key ≡
    true → is_held groups key ≡ false) → All (IsProperty held) es → value_after es groups code before ≡ before
unheld_keeps groups held code es before apart all = rw (none_held groups held code apart es all) refl

none_clear : (held : ℕ) (es : List Prl) → All (IsProperty held) es → clears_characters es ≡ false
none_clear held [] all = refl
none_clear held (e ∷ es) all =
    let property = All-head (IsProperty held) e es all in
    and_or (is_held character_groups e.0) (is_clear (class_of e.0)) (clears_characters es) (sets_not_clears
    (class_of e.0) property.sets) (none_clear held es (All-tail (IsProperty held) e es all))
  where
    and_or : (a b c : Bool) → b ≡ false → c ≡ false → ((a && b) || c) ≡ false
    and_or a true c e f = cc
    and_or true false c e f = f
    and_or false false c e f = f

-- the style as an entry sets nothing
style_keeps : (istd : Option ℕ) (groups code : ℕ) (before : Option (List ℕ)) → value_after (style_prls istd) groups
    code before ≡ before
style_keeps None groups code before = refl
style_keeps (Some n) groups code before = rw (concerns_none (is_held groups 0x4600) (code == 0x4600)
    (not (is_kept_by_plain code))) refl
  where
    concerns_none : (held same other : Bool) → ((held && (same && false)) || (held && (false && other))) ≡ false
    concerns_none true true other = refl
    concerns_none true false other = refl
    concerns_none false same other = refl

-- it names the style
style_of-style : (istd : Option ℕ) → MatchOption istd ⊤ (λ n. n < 65536) → style_named (style_prls istd)
    paragraph_groups
    ≡ istd
style_of-style None word = refl
style_of-style (Some n) word = ap Some (ap (λ bytes. u16_at bytes 0) (sym (append-nil (number_bytes 2 n))) ∙
    number_at-number_bytes 2 n [] word)

-- the clear as an entry names no style, and does nothing to marks
style_of-clear : (clear : Bool) → style_named (clear_prls clear) paragraph_groups ≡ None
style_of-clear true = refl
style_of-clear false = refl

clear_keeps : (clear : Bool) (code : ℕ) (before : Option (List ℕ)) → value_after (clear_prls clear) paragraph_groups
    code before ≡ before
clear_keeps true code before = refl
clear_keeps false code before = refl

-- where nothing is, a clear leaves nothing
clear_nothing : (clear : Bool) (code : ℕ) → value_after (clear_prls clear) character_groups code None ≡ None
clear_nothing false code = refl
clear_nothing true code = leaves_none (concerns_code character_groups code (0x2A33, 0 ∷ []))
  where
    leaves_none : (b : Bool) → left_by (last_or None (cond b ((0x2A33, 0 ∷ []) ∷ []) [])) None ≡ None
    leaves_none true = refl
    leaves_none false = refl

clears-clear : (clear : Bool) → clears_characters (clear_prls clear) ≡ clear
clears-clear true = refl
clears-clear false = refl

clears-style : (istd : Option ℕ) → clears_characters (style_prls istd) ≡ false
clears-style None = refl
clears-style (Some n) = refl

-- a map's own entries give the map
own_entries : (groups code : ℕ) (m : Properties) → IsPropertyMap groups m → value_after (entries m) groups code None ≡
    get m code
own_entries groups code m formed = value_after-entries groups code (entries m) (entries_sorted m) (properties_of groups
    m formed) ∙ sym (get-entries m code)

-- ---- the whole list

-- what four lists in a row do
in_a_row : (a b c d : List Prl) (groups code : ℕ) (before : Option (List ℕ)) → value_after (a ++ (b ++ (c ++ d)))
    groups code before ≡ value_after d groups code (value_after c groups code (value_after b groups code (value_after
    a groups code before)))
in_a_row a b c d groups code before =
    value_after-append a (b ++ (c ++ d)) groups code before
    ∙ (value_after-append b (c ++ d) groups code (value_after a groups code before)
    ∙ value_after-append c d groups code (value_after b groups code (value_after a groups code before)))

read_back : (m : Modifier) → IsFormedModifier m → MatchOption m.istd ⊤ (λ n. n < 65536) → IsModifierOf (modifier_prls
    m) m
read_back m formed word =
    let style = style_prls m.istd in
    let pap = entries m.pap in
    let clear = clear_prls m.clear in
    let chp = entries m.chp in
    let paps = properties_of paragraph_groups m.pap formed.pap in
    let chps = properties_of character_groups m.chp formed.chp in
    let no_style : style_named (pap ++ (clear ++ chp)) paragraph_groups ≡ None =
    style_of-append pap (clear ++ chp) paragraph_groups
    ∙ rw (
      style_of-append clear chp paragraph_groups,
      style_of-clear m.clear,
      style_of-entries paragraph_groups
          character_groups chp chps,
      style_of-entries paragraph_groups paragraph_groups pap paps,
    ) refl in
    record {
      style = sym (style_of-append style (pap ++ (clear ++ chp)) paragraph_groups ∙
          (ap (λ o. option_or o (style_named style paragraph_groups)) no_style ∙ style_of-style m.istd word));
      marks = λ code. sym (ap (value_after (modifier_prls m) paragraph_groups code) (get-empty nat_cmp code)
          ∙ (in_a_row style pap clear chp paragraph_groups code None
          ∙ (unheld_keeps paragraph_groups character_groups code chp _ character_apart chps
          ∙ (clear_keeps m.clear code _
          ∙ (ap (value_after pap paragraph_groups code) (style_keeps m.istd paragraph_groups code None) ∙ own_entries
          paragraph_groups code m.pap formed.pap)))));
      clear = sym (list_any-append _ style (pap ++ (clear ++ chp))
          ∙ rw (
            clears-style m.istd,
            list_any-append (λ prl. is_held character_groups prl.0 && is_clear
                (class_of prl.0)) pap (clear ++ chp),
            none_clear paragraph_groups pap paps,
            list_any-append
                (λ prl. is_held character_groups prl.0 && is_clear (class_of prl.0)) clear chp,
            clears-clear m.clear,
            none_clear character_groups chp chps,
          ) (or_false m.clear));
      characters = λ code. sym (ap (value_after (modifier_prls m) character_groups code) (get-empty nat_cmp code)
          ∙ (in_a_row style pap clear chp character_groups code None
          ∙ (ap (λ o. value_after chp character_groups code (value_after clear character_groups code (value_after pap
          character_groups code o))) (style_keeps m.istd character_groups code None)
          ∙ (ap (λ o. value_after chp character_groups code (value_after clear character_groups code o)) (unheld_keeps
          character_groups paragraph_groups code pap None paragraph_apart paps)
          ∙ (ap (value_after chp character_groups code) (clear_nothing m.clear code) ∙ own_entries character_groups
          code m.chp formed.chp)))));
    }
  where
    or_false : (b : Bool) → (b || false) ≡ b
    or_false true = refl
    or_false false = refl

style_listed : (istd : Option ℕ) → All IsPrl (style_prls istd)
style_listed None = All-nil IsPrl
style_listed (Some n) = All-cons IsPrl (0x4600, number_bytes 2 n) [] (record {
  some = omega arith;
  word = omega arith;
  size = length-number_bytes 2 n;
}) (All-nil IsPrl)

clear_listed : (clear : Bool) → All IsPrl (clear_prls clear)
clear_listed true = All-cons IsPrl (0x2A33, 0 ∷ []) [] (record {
  some = omega arith;
  word = omega arith;
  size = refl;
}) (All-nil IsPrl)
clear_listed false = All-nil IsPrl

style_unrefused : (istd : Option ℕ) (groups : ℕ) → All (λ prl. ¬ (IsRefusedIn groups prl.0)) (style_prls istd)
style_unrefused None groups = All-nil (λ prl. ¬ (IsRefusedIn groups prl.0))
style_unrefused (Some n) groups = All-cons (λ prl. ¬ (IsRefusedIn groups prl.0)) (0x4600, number_bytes 2 n) []
    (λ refused. let e = refused.1 in cc) (All-nil (λ prl. ¬ (IsRefusedIn groups prl.0)))

clear_unrefused : (clear : Bool) (groups : ℕ) → All (λ prl. ¬ (IsRefusedIn groups prl.0)) (clear_prls clear)
clear_unrefused true groups = All-cons (λ prl. ¬ (IsRefusedIn groups prl.0)) (0x2A33, 0 ∷ []) [] (λ refused. let e =
    refused.1 in cc) (All-nil (λ prl. ¬ (IsRefusedIn groups prl.0)))
clear_unrefused false groups = All-nil (λ prl. ¬ (IsRefusedIn groups prl.0))

all_four : (P : Prl → Type 0) (a b c d : List Prl) → All P a → All P b → All P c → All P d →
    All P (a ++ (b ++ (c ++ d)))
all_four P a b c d h i j k = All-append P a (b ++ (c ++ d)) h (All-append P b (c ++ d) i (All-append P c d j k))

modifier_spelt : (m : Modifier) → IsFormedModifier m → SpellsSprmList (printed_modifier m) (modifier_prls m)
modifier_spelt m formed =
    spells_joined (modifier_prls m) (all_four IsPrl (style_prls m.istd) (entries m.pap) (clear_prls m.clear)
    (entries m.chp)
    (style_listed m.istd) (prls_of m.pap (paragraph_groups, formed.pap)) (clear_listed m.clear) (prls_of m.chp
    (character_groups, formed.chp)))

pub modifier_accepted : (m : Modifier) → IsFormedModifier m → IsAcceptedList (printed_modifier m) prc_groups
modifier_accepted m formed = record {
  list = modifier_prls m;
  spelt = modifier_spelt m formed;
  accepted = all_four (λ prl. ¬ (IsRefusedIn prc_groups prl.0)) (style_prls m.istd) (entries m.pap)
      (clear_prls m.clear) (entries m.chp)
      (style_unrefused m.istd prc_groups) (none_refused paragraph_groups prc_groups (entries m.pap) (properties_of
      paragraph_groups m.pap formed.pap))
      (clear_unrefused m.clear prc_groups) (none_refused character_groups prc_groups (entries m.chp) (properties_of
      character_groups m.chp formed.chp));
}

pub modifier_back : (m : Modifier) → IsFormedModifier m → MatchOption m.istd ⊤ (λ n. n < 65536) → (prls : List Prl) →
    SpellsSprmList (printed_modifier m) prls → IsModifierOf prls m
modifier_back m formed word prls read =
    subst (λ l. IsModifierOf l m) (spelt_unique (printed_modifier m) (modifier_prls m) prls (modifier_spelt m formed)
    read) (read_back m formed word)
