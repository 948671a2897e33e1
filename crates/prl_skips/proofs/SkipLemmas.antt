-- Skipped entries do what the entries do.
use Rattle.std.proofs.Common.{◌≡◌, ◌≢◌, ◌↔◌, ℕ, ◌/◌, ◌%◌, ◌^◌, ◌<◌, ◌==◌, Bool, true, false, cond, ◌||◌}
use Rattle.std.proofs.Common.{◌&&◌, List, [], ◌∷◌, Option, map, length, refl, sym, ap, ◌∙◌, subst, arith}
use Rattle.std.specs.List.{All, filter, last_or, list_any}
use Rattle.std.specs.Prelude.{if◌then◌else◌, not, option_map, None}
use Rattle.std.specs.FinMap.{get, empty}
use Rattle.doc_bits.specs.Number.{u16_at}
use Rattle.std.proofs.lemmas.Bool.{eqb-true}
use Rattle.std.proofs.lemmas.List.Elements.{All-head, All-tail, All-nil, All-cons}
use Rattle.sprm_table.specs.declared.codes.Class.{Class}
use Rattle.sprm_table.specs.declared.codes.Class.TheVariants.{Plain, Toggle, Clear, Style, Refused}
use Rattle.sprm_table.specs.Codes.{sgc, is_held, is_code_among, toggles, refused_codes, class_of, is_property, is_clear}
use Rattle.sprm_table.specs.Codes.{is_style, IsRefusedIn}
use Rattle.sprm_table.specs.Operands.{size_of, IsSizeOf}
use Rattle.sprm_table.specs.Sprm.{Prl, IsPrl, IsAcceptedList}
use Rattle.sprm_table.proofs.Public.{spelt_unique}
use Rattle.prop_map.specs.declared.acting.Acted.{Acted}
use Rattle.prop_map.specs.declared.modifiers.Modifier.{Modifier}
use Rattle.prop_map.specs.Settings.{Properties}
use Rattle.prop_map.specs.Formed.{character_groups, paragraph_groups}
use Rattle.prop_map.specs.Acting.{is_kept_by_plain, concerns_code, left_by, value_after, names_style, style_named}
use Rattle.prop_map.specs.Acting.{ArePropertiesAfter, IsActed, IsActedBy}
use Rattle.prop_map.specs.Modifiers.{IsModifierOf, IsSpeltModifier}
use Rattle.prl_skips.specs.Skips.{picture_code, skipped_code, skipped, SkipsRefused, HoldsNoPictures}
use Rattle.doc_bits.proofs.Public.{first_false}

-- ---- the nine codes

-- the code is the first of those it may be, or one of the others
one_of : (P : ℕ → Type 0) (code first : ℕ) (others : Bool) → P first → (others ≡ true → P code) →
    (code == first || others) ≡ true → P code
one_of P code first others here more among =
    elim (code == first) as (λ r. (code == first) ≡ r → (r || others) ≡ true → P code) [
      | true ↦ λ e h. subst P (sym (eqb-true code first e)) here
      | false ↦ λ e h. more h
    ] refl among

-- what holds of each code that is not read
pub of_each : (P : ℕ → Type 0) → P 0x4610 → P 0xC615 → P 0xCA47 → P 0x6645 → P 0x6646 → P 0x0800 → P 0x0801 →
    P 0xCA57 → P 0xC63F → (code : ℕ) → is_code_among code refused_codes ≡ true → P code
of_each P a b c d e f g h i code among =
    one_of P code 0x4610 _ a
    (one_of P code 0xC615 _ b
    (one_of P code 0xCA47 _ c
    (one_of P code 0x6645 _ d
    (one_of P code 0x6646 _ e
    (one_of P code 0x0800 _ f
    (one_of P code 0x0801 _ g (one_of P code 0xCA57 _ h (one_of P code 0xC63F _ i (λ none. absurd (cc none))))))))))
    among

-- it is of the class that is not read, and no code of pictures is
pub refused_class : (code : ℕ) → is_code_among code refused_codes ≡ true → class_of code ≡ Refused
refused_class = of_each (λ code. class_of code ≡ Refused) refl refl refl refl refl refl refl refl refl

pub picture_class : (code : ℕ) → is_code_among code refused_codes ≡ true → class_of (picture_code code) ≡ Plain
picture_class = of_each (λ code. class_of (picture_code code) ≡ Plain) refl refl refl refl refl refl refl refl refl

pub picture_group : (code : ℕ) → is_code_among code refused_codes ≡ true → sgc (picture_code code) ≡ 3
picture_group = of_each (λ code. sgc (picture_code code) ≡ 3) refl refl refl refl refl refl refl refl refl

pub picture_size : (code : ℕ) → is_code_among code refused_codes ≡ true → size_of (picture_code code) ≡ size_of code
picture_size = of_each (λ code. size_of (picture_code code) ≡ size_of code) refl refl refl refl refl refl refl refl refl

pub picture_read : (code : ℕ) → is_code_among code refused_codes ≡ true →
    is_code_among (picture_code code) refused_codes ≡ false
picture_read =
    of_each (λ code. is_code_among (picture_code code) refused_codes ≡ false) refl refl refl refl refl refl refl refl
    refl

-- no other code is of that class
other_class : (a b c d : Bool) → d ≡ false →
    (if a then Clear else if b then Style else if c then Toggle else if d then Refused else Plain) ≢ Refused
other_class true b c d e is = absurd (cc is)
other_class false true c d e is = absurd (cc is)
other_class false false true d e is = absurd (cc is)
other_class false false false true e is = absurd (cc e)
other_class false false false false e is = absurd (cc is)

pub class_refused : (code : ℕ) → class_of code ≡ Refused → is_code_among code refused_codes ≡ true
class_refused code is =
    elim (is_code_among code refused_codes) as (λ r. is_code_among code refused_codes ≡ r → r ≡ true) [
      | true ↦ λ e. refl
      | false ↦ λ e. absurd
          (other_class (code == 0x2A33) (code == 0x4600) (is_code_among code toggles) (is_code_among code refused_codes)
          e is)
    ] refl

-- ---- skipped codes

pub skipped_is : (code : ℕ) → is_code_among code refused_codes ≡ true → skipped_code code ≡ picture_code code
skipped_is code among = rw among refl

pub skipped_same : (code : ℕ) → is_code_among code refused_codes ≡ false → skipped_code code ≡ code
skipped_same code other = rw other refl

-- either a code is not read, or it stays
pub case : (code : ℕ) (P : ℕ → Type 0) → (is_code_among code refused_codes ≡ true → P (picture_code code)) →
    (is_code_among code refused_codes ≡ false → P code) → P (skipped_code code)
case code P refused other =
    elim (is_code_among code refused_codes) as
    (λ r. is_code_among code refused_codes ≡ r → P (if r then picture_code code else code)) [
      | true ↦ λ e. refused e
      | false ↦ λ e. other e
    ] refl

pub size_stays : (code : ℕ) → size_of (skipped_code code) ≡ size_of code
size_stays code = case code (λ c. size_of c ≡ size_of code) (picture_size code) (λ e. refl)

pub not_refused : (code : ℕ) → class_of (skipped_code code) ≢ Refused
not_refused code =
    case code (λ c. class_of c ≢ Refused)
    (λ among e. let plain = picture_class code among in cc (plain, e))
    (λ other e. let among = class_refused code e in cc (among, other))

-- what is skipped is not skipped again
pub skipped_twice : (code : ℕ) → skipped_code (skipped_code code) ≡ skipped_code code
skipped_twice code =
    case code (λ c. skipped_code c ≡ c)
    (λ among. skipped_same (picture_code code) (picture_read code among)) (λ other. skipped_same code other)

pub skipped_again : (prls : List Prl) → map skipped (map skipped prls) ≡ map skipped prls
skipped_again [] = refl
skipped_again (prl ∷ prls) =
    ap (λ c. (c, prl.1) ∷ map skipped (map skipped prls)) (skipped_twice prl.0)
    ∙ ap (λ l. skipped prl ∷ l) (skipped_again prls)

-- the skipped entry is one, of the size that it had
pub entry_stays : (prl : Prl) → IsPrl prl → IsPrl (skipped prl)
entry_stays prl is =
    let word = is.word in
    let some = is.some in
    record {
      some = case prl.0 (λ c. 0 < c) (λ among. omega arith) (λ other. some);
      word = case prl.0 (λ c. c < 65536) (λ among. omega arith) (λ other. word);
      size = subst (λ s. IsSizeOf s (length prl.1)) (sym (size_stays prl.0)) is.size;
    }

pub entries_stay : (prls : List Prl) → All IsPrl prls → All IsPrl (map skipped prls)
entries_stay [] all = All-nil IsPrl
entries_stay (prl ∷ prls) all =
    All-cons IsPrl (skipped prl) (map skipped prls) (entry_stays prl (All-head IsPrl prl prls all))
    (entries_stay prls (All-tail IsPrl prl prls all))

-- no place finds a fault
pub none_refused : (groups : ℕ) (prls : List Prl) → All (λ prl. ¬ (IsRefusedIn groups prl.0)) (map skipped prls)
none_refused groups [] = All-nil (λ prl. ¬ (IsRefusedIn groups prl.0))
none_refused groups (prl ∷ prls) =
    All-cons (λ prl. ¬ (IsRefusedIn groups prl.0)) (skipped prl) (map skipped prls)
    (λ refused. not_refused prl.0 refused.1) (none_refused groups prls)

pub accepted_skips : (old new : List ℕ) → SkipsRefused old new → (groups : ℕ) → IsAcceptedList new groups
accepted_skips old new s groups = record
    { list = map skipped s.prls; spelt = s.skips; accepted = none_refused groups s.prls }

-- ---- tests that no code passes which is not read

-- the test passes no such entry, whether skipped or not
abbrev pub PassesNone : (Prl → Bool) → Type 0
PassesNone test = (prl : Prl) → is_code_among prl.0 refused_codes ≡ true →
    (test prl ≡ false) × (test (picture_code prl.0, prl.1) ≡ false)

filter_none : (test : Prl → Bool) (x y : Prl) (xs ys : List Prl) → test x ≡ false → test y ≡ false →
    filter test ys ≡ filter test xs → filter test (y ∷ ys) ≡ filter test (x ∷ xs)
filter_none test x y xs ys first second e = rw (first, second) e

pub filter_skips : (test : Prl → Bool) → PassesNone test → (prls : List Prl) →
    filter test (map skipped prls) ≡ filter test prls
filter_skips test none [] = refl
filter_skips test none (x ∷ xs) =
    let more = filter_skips test none xs in
    case x.0 (λ c. filter test ((c, x.1) ∷ map skipped xs) ≡ filter test (x ∷ xs))
    (λ among. let q = none x among in filter_none test x (picture_code x.0, x.1) xs (map skipped xs) q.0 q.1 more)
    (λ other. ap (λ zs. cond (test x) (x ∷ zs) zs) more)

any_none : (test : Prl → Bool) (x y : Prl) (xs ys : List Prl) → test x ≡ false → test y ≡ false →
    list_any test ys ≡ list_any test xs → list_any test (y ∷ ys) ≡ list_any test (x ∷ xs)
any_none test x y xs ys first second e = rw (first, second) e

pub any_skips : (test : Prl → Bool) → PassesNone test → (prls : List Prl) →
    list_any test (map skipped prls) ≡ list_any test prls
any_skips test none [] = refl
any_skips test none (x ∷ xs) =
    let more = any_skips test none xs in
    case x.0 (λ c. list_any test ((c, x.1) ∷ map skipped xs) ≡ list_any test (x ∷ xs))
    (λ among. let q = none x among in any_none test x (picture_code x.0, x.1) xs (map skipped xs) q.0 q.1 more)
    (λ other. ap (λ b. test x || b) more)

-- a place does not hold a skipped code
not_held : (groups code : ℕ) → HoldsNoPictures groups → is_code_among code refused_codes ≡ true →
    is_held groups (picture_code code) ≡ false
not_held groups code none among = ap (λ s. groups / 2 ^ s % 2 == 1) (picture_group code among) ∙ ap (λ r. r == 1) none

-- what is not held passes no test, and what is not read sets, removes and names nothing
concerns_none : (held same kept : Bool) (class : Class) → class ≡ Refused →
    ((held && (same && is_property class)) || (held && (is_clear class && not kept))) ≡ false
concerns_none true true kept class e = rw e refl
concerns_none true false kept class e = rw e refl
concerns_none false same kept class e = refl

unheld : (held first second : Bool) → held ≡ false → ((held && first) || (held && second)) ≡ false
unheld held first second e = rw e refl

names_none : (held : Bool) (class : Class) → class ≡ Refused → (held && is_style class) ≡ false
names_none true class e = rw e refl
names_none false class e = refl

clears_none : (held : Bool) (class : Class) → class ≡ Refused → (held && is_clear class) ≡ false
clears_none true class e = rw e refl
clears_none false class e = refl

no_concern : (groups code : ℕ) → HoldsNoPictures groups → PassesNone (concerns_code groups code)
no_concern groups code none prl among = (
  concerns_none (is_held groups prl.0) (code == prl.0) (is_kept_by_plain code) (class_of prl.0) (refused_class prl.0
      among),
  unheld (is_held groups (picture_code prl.0)) (code == picture_code prl.0 && is_property (class_of (picture_code
      prl.0)))
      (is_clear (class_of (picture_code prl.0)) && not (is_kept_by_plain code)) (not_held groups prl.0 none among),
)

no_name : (groups : ℕ) → HoldsNoPictures groups → PassesNone (names_style groups)
no_name groups none prl among = (
  names_none (is_held groups prl.0) (class_of prl.0) (refused_class prl.0 among),
  first_false (is_held groups (picture_code prl.0)) (is_style (class_of (picture_code prl.0)))
      (not_held groups prl.0 none among),
)

no_clear : PassesNone (λ prl. is_held character_groups prl.0 && is_clear (class_of prl.0))
no_clear prl among = (
  clears_none (is_held character_groups prl.0) (class_of prl.0) (refused_class prl.0 among),
  first_false (is_held character_groups (picture_code prl.0)) (is_clear (class_of (picture_code prl.0)))
      (not_held character_groups prl.0 refl among),
)

-- ---- what lists do

pub value_skips : (prls : List Prl) (groups code : ℕ) (before : Option (List ℕ)) → HoldsNoPictures groups →
    value_after (map skipped prls) groups code before ≡ value_after prls groups code before
value_skips prls groups code before none =
    ap (λ l. left_by (last_or None l) before) (filter_skips (concerns_code groups code) (no_concern groups code
    none) prls)

pub style_skips : (prls : List Prl) (groups : ℕ) → HoldsNoPictures groups →
    style_named (map skipped prls) groups ≡ style_named prls groups
style_skips prls groups none =
    ap (λ l. option_map (λ prl. u16_at prl.1 0) (last_or None l))
    (filter_skips (names_style groups) (no_name groups none) prls)

pub make_skips : (prls : List Prl) (groups : ℕ) (before after : Properties) → HoldsNoPictures groups →
    (ArePropertiesAfter (map skipped prls) groups before after ↔ ArePropertiesAfter prls groups before after)
make_skips prls groups before after none = (
  λ h code. h code ∙ value_skips prls groups code (get before code) none,
  λ h code. h code ∙ sym (value_skips prls groups code (get before code) none),
)

acted_skips : (prls : List Prl) (groups : ℕ) (before : Properties) (acted : Acted) → HoldsNoPictures groups →
    (IsActed (map skipped prls) groups before acted ↔ IsActed prls groups before acted)
acted_skips prls groups before acted none = (
  λ h. record
      { map = (make_skips prls groups before acted.map none).0 h.map; style = h.style ∙ style_skips prls groups none },
  λ h. record {
    map = (make_skips prls groups before acted.map none).1 h.map;
    style = h.style ∙ sym (style_skips prls groups none);
  },
)

pub act_skips : (old new : List ℕ) (groups : ℕ) (before : Properties) (acted : Acted) → HoldsNoPictures groups →
    SkipsRefused old new → (IsActedBy new groups before acted ↔ IsActedBy old groups before acted)
act_skips old new groups before acted none s = (
  λ h prls spelt. subst (λ l. IsActed l groups before acted) (spelt_unique old s.prls prls s.spelt spelt)
      ((acted_skips s.prls groups before acted none).0 (h (map skipped s.prls) s.skips)),
  λ h prls spelt. subst (λ l. IsActed l groups before acted) (spelt_unique new (map skipped s.prls) prls s.skips spelt)
      ((acted_skips s.prls groups before acted none).1 (h s.prls s.spelt)),
)

modified_skips : (prls : List Prl) (modifier : Modifier) →
    (IsModifierOf (map skipped prls) modifier ↔ IsModifierOf prls modifier)
modified_skips prls modifier =
    let style = style_skips prls paragraph_groups refl in
    let clear = any_skips (λ prl. is_held character_groups prl.0 && is_clear (class_of prl.0)) no_clear prls in (
      λ h. record {
        style = h.style ∙ style;
        marks = (make_skips prls paragraph_groups empty modifier.pap refl).0 h.marks;
        clear = h.clear ∙ clear;
        characters = (make_skips prls character_groups empty modifier.chp refl).0 h.characters;
      },
      λ h. record {
        style = h.style ∙ sym style;
        marks = (make_skips prls paragraph_groups empty modifier.pap refl).1 h.marks;
        clear = h.clear ∙ sym clear;
        characters = (make_skips prls character_groups empty modifier.chp refl).1 h.characters;
      },
    )

pub modify_skips : (old new : List ℕ) (modifier : Modifier) → SkipsRefused old new →
    (IsSpeltModifier new modifier ↔ IsSpeltModifier old modifier)
modify_skips old new modifier s = (
  λ h prls spelt. subst (λ l. IsModifierOf l modifier) (spelt_unique old s.prls prls s.spelt spelt)
      ((modified_skips s.prls modifier).0 (h (map skipped s.prls) s.skips)),
  λ h prls spelt. subst (λ l. IsModifierOf l modifier) (spelt_unique new (map skipped s.prls) prls s.skips spelt)
      ((modified_skips s.prls modifier).1 (h s.prls s.spelt)),
)
