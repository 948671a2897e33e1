-- Properties whose style has another number: what is at each code, that they stay what their place may hold, and
-- how
-- long they are printed.
use Rattle.std.proofs.Common.{◌≡◌, ◌≢◌, ◌∙◌, refl, sym, ap, ℕ, suc, ◌+◌, ◌<◌, ◌==◌, Bool, true, false, cond}
use Rattle.std.proofs.Common.{List, [], ◌∷◌, length, take, Option, Some, None, option_map, arith}
use Rattle.std.proofs.Math.Seq.{take-length}
use Rattle.std.proofs.Common.{inl, inr}
use Rattle.std.proofs.lemmas.Bool.{eqb-true, eq-eqb, ne_eqb, cases_Bool}
use Rattle.std.specs.declared.cmp.Ordering.TheVariants.{Less, Equal, Greater}
use Rattle.std.specs.Ordering.{nat_cmp}
use Rattle.std.specs.Cmp.{nat_cmp_total, unsigned_tied}
use Rattle.std.specs.FinMap.{get, insert, empty, get-empty, get-insert}
use Rattle.doc_bits.specs.Number.{u16_at, number_bytes}
use Rattle.doc_bits.proofs.Public.{number_bytes-number_at, number_are_bytes, length-number_bytes}
use Rattle.prop_map.specs.Settings.{Properties}
use Rattle.prop_map.specs.Formed.{IsPropertyMap, character_groups}
use Rattle.prop_map.proofs.Public.{same_properties, stay_formed, find_gap, rises, both_second}
use Rattle.effective_props.specs.Layers.{character_style_code}
use Rattle.effective_props.proofs.Public.{named_bytes}
use Rattle.sprm_table.specs.Sprm.{Prl, spelling}
use Rattle.std.proofs.Common.{flat_map, length-append, T, get_or}
use Rattle.std.specs.Ordering.{is_eq}
use Rattle.std.specs.FinMap.{find, put, is_sorted, entries, entries_sorted, entries-insert, get-entries}
use Rattle.std.specs.FinMap.Entries.{by_order}
use Rattle.std.proofs.lemmas.List.Concat.{flat_map-cons}
use Rattle.std.proofs.lemmas.Option.{none-some, same_Some}
use Rattle.std.specs.Cmp.{ranked}
use Rattle.prop_map.specs.Printing.{printed_list}
use Rattle.sprm_table.specs.declared.operands.OperandSize.{OperandSize}
use Rattle.sprm_table.specs.declared.operands.OperandSize.TheVariants.{Fixed, CountedByByte, CountedByWord}
use Rattle.sprm_table.specs.Operands.{size_of, operand_bytes}
use Rattle.doc_join.specs.declared.renumbering.Renumbering.{Renumbering}
use Rattle.doc_join.specs.Numbers.{renumbered_style}
use Rattle.doc_join.specs.Settings.{naming, renumbered_chp}

-- the value of a style number after it
abbrev pub renamed : Renumbering → List ℕ → List ℕ
renamed numbers value = number_bytes 2 (renumbered_style numbers (u16_at value 0))

-- ---- what is at each code

-- properties that name no style stay
pub none_named : (numbers : Renumbering) (map : Properties) → get map character_style_code ≡ None →
    renumbered_chp numbers map ≡ map
none_named numbers map none = ap (naming numbers map) none

pub one_named : (numbers : Renumbering) (map : Properties) (value : List ℕ) → get map character_style_code ≡ Some value
    →
    renumbered_chp numbers map ≡ insert map character_style_code (renamed numbers value)
one_named numbers map value named = ap (naming numbers map) named

pub renumbered-empty : (numbers : Renumbering) → empty ≡ renumbered_chp numbers empty
renumbered-empty numbers = sym (none_named numbers empty (get-empty nat_cmp character_style_code))

-- what was put at a code, and what is at another one
placed : (map : Properties) (code other : ℕ) (value : List ℕ) (same : Bool) → (other == code) ≡ same →
    get (insert map code value) other ≡ cond same (Some value) (get map other)
placed map code other value same is =
    get-insert nat_cmp_total map code value other
    ∙ ap (λ b. cond b (Some value) (get map other)) (unsigned_tied other code ∙ is)

at_code : (map : Properties) (code : ℕ) (value : List ℕ) → get (insert map code value) code ≡ Some value
at_code map code value = placed map code code value true (eq-eqb code code refl)

at_other : (map : Properties) (code other : ℕ) (value : List ℕ) → other ≢ code →
    get (insert map code value) other ≡ get map other
at_other map code other value apart = placed map code other value false (ne_eqb other code apart)

-- at other codes nothing changes
other_as : (numbers : Renumbering) (map : Properties) (code : ℕ) (named : Option (List ℕ)) →
    code ≢ character_style_code → get (naming numbers map named) code ≡ get map code
other_as numbers map code None apart = refl
other_as numbers map code (Some value) apart = at_other map character_style_code code (renamed numbers value) apart

pub get-renumbered-other : (numbers : Renumbering) (map : Properties) (code : ℕ) → code ≢ character_style_code →
    get (renumbered_chp numbers map) code ≡ get map code
get-renumbered-other numbers map code apart = other_as numbers map code (get map character_style_code) apart

style_as : (numbers : Renumbering) (map : Properties) (named : Option (List ℕ)) →
    get map character_style_code ≡ named →
    get (naming numbers map named) character_style_code ≡ option_map (renamed numbers) named
style_as numbers map None none = none
style_as numbers map (Some value) some = at_code map character_style_code (renamed numbers value)

-- the style is renamed
pub get-renumbered-style : (numbers : Renumbering) (map : Properties) →
    get (renumbered_chp numbers map) character_style_code
    ≡ option_map (renamed numbers) (get map character_style_code)
get-renumbered-style numbers map = style_as numbers map (get map character_style_code) refl

-- ---- a style number that stays

two_bytes : (direct : Properties) (value : List ℕ) → IsPropertyMap character_groups direct →
    get direct character_style_code ≡ Some value → number_bytes 2 (u16_at value 0) ≡ value
two_bytes direct value formed named =
    let two : length value ≡ 2 = named_bytes direct value formed named in
    number_bytes-number_at 2 value (formed character_style_code value named).bytes (omega arith)
    ∙ (ap (λ n. take n value) (sym two) ∙ take-length value)

put_again : (map : Properties) (code : ℕ) (value : List ℕ) → get map code ≡ Some value → insert map code value ≡ map
put_again map code value here =
    same_properties (insert map code value) map (λ other. elim (cases_Bool (other == code)) [
      | inl same ↦
          placed map code other value true same ∙ (sym here ∙ ap (get map) (sym (eqb-true other code same)))
      | inr apart ↦ placed map code other value false apart
    ])

pub same_style : (numbers : Renumbering) (map : Properties) (value : List ℕ) → IsPropertyMap character_groups map →
    get map character_style_code ≡ Some value → renumbered_style numbers (u16_at value 0) ≡ u16_at value 0 →
    renumbered_chp numbers map ≡ map
same_style numbers map value formed named same =
    one_named numbers map value named
    ∙ (ap (insert map character_style_code) (ap (number_bytes 2) same ∙ two_bytes map value formed named)
    ∙ put_again map character_style_code value named)

-- ---- what a place may hold

named_formed : (numbers : Renumbering) (map : Properties) (named : Option (List ℕ)) →
    get map character_style_code ≡ named → IsPropertyMap character_groups map →
    IsPropertyMap character_groups (naming numbers map named)
named_formed numbers map None none formed = formed
named_formed numbers map (Some value) some formed =
    let entry = formed character_style_code value some in
    let old = entry.property in
    stay_formed character_groups map (character_style_code, renamed numbers value) formed (record {
      property = record {
        entry = record {
          some = old.entry.some;
          word = old.entry.word;
          size = length-number_bytes 2 (renumbered_style numbers (u16_at value 0));
        };
        held = old.held;
        sets = old.sets;
      };
      bytes = number_are_bytes (renumbered_style numbers (u16_at value 0));
    })

pub renumbered_formed : (numbers : Renumbering) (map : Properties) → IsPropertyMap character_groups map →
    IsPropertyMap character_groups (renumbered_chp numbers map)
renumbered_formed numbers map formed = named_formed numbers map (get map character_style_code) refl formed

-- ---- how long it is printed

abbrev spelt_length : List Prl → ℕ
spelt_length prls = length (flat_map spelling prls)

spelt-cons : (prl : Prl) (prls : List Prl) → spelt_length (prl ∷ prls) ≡ length (spelling prl) + spelt_length prls
spelt-cons prl prls =
    ap length (flat_map-cons spelling prl prls) ∙ length-append (spelling prl) (flat_map spelling prls)

operand_length : (size : OperandSize) (value other : List ℕ) → length value ≡ length other →
    length (operand_bytes size value) ≡ length (operand_bytes size other)
operand_length (Fixed size) value other same = same
operand_length CountedByByte value other same = omega (arith, same)
operand_length CountedByWord value other same =
    omega (
      arith,
      length-append (number_bytes 2 (length value + 1)) value,
      length-append (number_bytes 2 (length other + 1)) other,
      length-number_bytes 2 (length value + 1),
      length-number_bytes 2 (length other + 1),
      same,
    )

-- values of one length are spelt in as many bytes
spelling_length : (code : ℕ) (value other : List ℕ) → length value ≡ length other →
    length (spelling (code, value)) ≡ length (spelling (code, other))
spelling_length code value other same =
    omega (
      arith,
      length-append (number_bytes 2 code) (operand_bytes (size_of code) value),
      length-append (number_bytes 2 code) (operand_bytes (size_of code) other),
      operand_length (size_of code) value other same,
    )

-- a value put in place of one of its length
put_length : (code : ℕ) (value old : List ℕ) (es : List Prl) → T (is_sorted nat_cmp es) →
    find nat_cmp code es ≡ Some old → length value ≡ length old →
    spelt_length (put nat_cmp code value es) ≡ spelt_length es
put_length code value old [] sorted here same = absurd (none-some old here)
put_length code value old (e ∷ es) sorted here same =
    elim (nat_cmp code e.0) as (λ r. r ≡ nat_cmp code e.0 →
    cond (is_eq r) (Some e.1) (find nat_cmp code es) ≡ Some old →
    spelt_length (by_order r ((code, value) ∷ e ∷ es) ((e.0, value) ∷ es) (e ∷ put nat_cmp code value es))
    ≡ spelt_length (e ∷ es)) [
      | Less ↦ λ is found.
          let low = ranked code e.0 Less is in
          let none : find nat_cmp code es ≡ None =
          find_gap 0 code es (omega arith) (λ i d l. absurd (omega arith))
          (λ i d l within.
          let more : e.0 < (get_or es i d).0 = rises (e ∷ es) 0 (suc i) d sorted (omega arith) (omega arith) in
          omega (arith, more, low)) in
          absurd (none-some old (sym none ∙ found))
      | Equal ↦ λ is found.
          omega (
            arith,
            spelt-cons (e.0, value) es,
            spelt-cons e es,
            spelling_length e.0 value e.1 (same ∙ sym (ap length (same_Some e.1 old found))),
          )
      | Greater ↦ λ is found.
          omega (
            arith,
            spelt-cons e (put nat_cmp code value es),
            spelt-cons e es,
            put_length code value old es (both_second _ _ sorted) found same,
          )
    ] refl here

named_length : (numbers : Renumbering) (map : Properties) (named : Option (List ℕ)) →
    get map character_style_code ≡ named → IsPropertyMap character_groups map →
    length (printed_list (naming numbers map named)) ≡ length (printed_list map)
named_length numbers map None none formed = refl
named_length numbers map (Some value) some formed =
    let size = length-number_bytes 2 (renumbered_style numbers (u16_at value 0)) in
    ap spelt_length (entries-insert nat_cmp_total map character_style_code (renamed numbers value))
    ∙ put_length character_style_code (renamed numbers value) value (entries map) (entries_sorted map)
    (sym (get-entries map character_style_code) ∙ some) (size ∙ sym (named_bytes map value formed some))

-- renumbered properties are printed in as many bytes
pub renumbered_length : (numbers : Renumbering) (map : Properties) → IsPropertyMap character_groups map →
    length (printed_list (renumbered_chp numbers map)) ≡ length (printed_list map)
renumbered_length numbers map formed = named_length numbers map (get map character_style_code) refl formed
