-- A printed map: its entries, and what acting with them gives.
use Rattle.std.proofs.Common.{◌≡◌, inl, inr, ℕ, zero, suc, ◌+◌, ◌<◌, ◌≤◌, ◌==◌, Bool, true, false, cond, not, ◌&&◌}
use Rattle.std.proofs.Common.{◌||◌, T, List, [], ◌∷◌, length, get_or, Option, Some, None, refl, sym, ap, ◌∙◌, subst}
use Rattle.std.proofs.Common.{arith, length-append}
use Rattle.std.proofs.lemmas.List.{get_or_default}
use Rattle.std.proofs.lemmas.List.Elements.{All-weaker, All-head, All-tail}
use Rattle.std.proofs.lemmas.Bool.{eqb-true, cases_lt}
use Rattle.std.specs.Ordering.{nat_cmp, is_eq, eq_by_cmp}
use Rattle.std.specs.Cmp.{unsigned_tied}
use Rattle.std.specs.Option.{option_or}
use Rattle.std.specs.List.{All, filter, last_or}
use Rattle.std.specs.FinMap.{get, get-entries, get-empty, entries, entries_sorted, empty, find, is_sorted}
use Rattle.std.specs.FinMap.Entries.{below_all}
use Rattle.sprm_table.specs.declared.Class.{Class}
use Rattle.sprm_table.specs.declared.Class.TheVariants.{Plain, Toggle, Clear, Style, Refused}
use Rattle.sprm_table.specs.Codes.{is_held, class_of, is_property, is_clear, is_style, IsRefusedIn}
use Rattle.sprm_table.specs.Sprm.{Prl, IsPrl, IsProperty, spelling}
use Rattle.doc_bits.specs.Number.{number_bytes}
use Rattle.doc_bits.proofs.Public.{length-number_bytes}
use Rattle.sprm_table.specs.declared.OperandSize.{OperandSize}
use Rattle.sprm_table.specs.declared.OperandSize.TheVariants.{Fixed, CountedByByte, CountedByWord}
use Rattle.sprm_table.specs.Operands.{size_of, operand_bytes}
use Rattle.sprm_table.proofs.Public.{spelt_unique, spells_joined}
use Rattle.prop_map.specs.Settings.{Properties}
use Rattle.prop_map.specs.Entries.{Entries}
use Rattle.prop_map.specs.Formed.{IsMapEntry, IsPropertyMap, IsFormedMap}
use Rattle.prop_map.specs.Acting.{is_kept_by_plain, concerns_code, left_by, value_after, names_style, style_named}
use Rattle.prop_map.specs.Acting.{ArePropertiesAfter}
use Rattle.prop_map.specs.Printing.{printed_list, IsPrintOf}
use Rattle.prop_map.proofs.EntriesLemmas.{rises, find_found, AllBelow, less_from, both_first, both_second, cmp_less}
use Rattle.prop_map.proofs.ActingLemmas.{sets_not_clears}
use Rattle.prop_map.proofs.ChangeLemmas.{or_none}

-- ---- the entries of a map

-- a map has at each entry's code its value
pub get-entry : (m : Properties) (i : ℕ) (d : ℕ × List ℕ) → i < length (entries m) → get m (get_or (entries m) i d).0 ≡
    Some (get_or (entries m) i d).1
get-entry m i d within =
    let es = entries m in
    let code = (get_or es i d).0 in
    let here : (e : ℕ × List ℕ) → (get_or es i e).0 ≡ code = λ e. ap (λ x. x.0) (get_or_default es i e d within) in
    let below : AllBelow code i es = λ j e l. let lt = rises es j i e (entries_sorted m) l within in
    let same = here e in omega arith in
    get-entries m code ∙ find_found i code es d within below here

pub entries_of : (groups : ℕ) (m : Properties) → IsPropertyMap groups m → All (IsMapEntry groups) (entries m)
entries_of groups m formed k d within = formed _ _ (get-entry m k d within)

pub properties_of : (groups : ℕ) (m : Properties) → IsPropertyMap groups m → All (IsProperty groups) (entries m)
properties_of groups m formed = All-weaker (IsMapEntry groups) (IsProperty groups) (λ prl h. h.property) (entries m)
    (entries_of groups m formed)

pub prls_of : (m : Properties) → IsFormedMap m → All IsPrl (entries m)
prls_of m formed = All-weaker (IsProperty formed.0) IsPrl (λ prl h. h.entry) (entries m) (properties_of formed.0 m
    formed.1)

found_has : (P : Prl → Type 0) (es : Entries) (code : ℕ) (value : List ℕ) → All P es → find nat_cmp code es ≡ Some
    value → P (code, value)
found_has P [] code value all e = cc
found_has P (x ∷ es) code value all e =
    elim (eq_by_cmp nat_cmp code x.0) as (λ b. eq_by_cmp nat_cmp code x.0 ≡ b → cond b (Some x.1) (find nat_cmp code
    es) ≡ Some value → P (code, value)) [
      | true ↦ λ t e.
          let key = eqb-true code x.0 (sym (unsigned_tied code x.0) ∙ t) in
          let same : x.1 ≡ value = cc in
          subst P (λ i. (sym key i, same i)) (All-head P x es all)
      | false ↦ λ t e. found_has P es code value (All-tail P x es all) e
    ] refl e

-- a map holds what its entries are
pub held_by_entries : (groups : ℕ) (m : Properties) → All (IsMapEntry groups) (entries m) → IsPropertyMap groups m
held_by_entries groups m all code value e = found_has (IsMapEntry groups) (entries m) code value all
    (sym (get-entries m code) ∙ e)

-- a code is at least as great as its place, so there are at most 65,536
at_least : (es : Entries) (i : ℕ) (d : ℕ × List ℕ) → T (is_sorted nat_cmp es) → i < length es → i ≤ (get_or es i d).0
at_least es zero d h within = omega arith
at_least es (suc i) d h within = let ih = at_least es i d h (omega arith) in let up = rises es i (suc i) d h
    (omega arith) within in omega arith

pub few_entries : (m : Properties) (i : ℕ) → IsFormedMap m → i < length (entries m) → i < 65536
few_entries m i formed within =
    let d : ℕ × List ℕ = (0, []) in
    let low = at_least (entries m) i d (entries_sorted m) within in
    let high = (prls_of m formed i d within).word in
    omega arith

pub few_len : (m : Properties) → IsFormedMap m → length (entries m) ≤ 65536
few_len m formed = elim (cases_lt 65536 (length (entries m))) [
  | inl over ↦ let few = few_entries m 65536 formed over in omega arith
  | inr within ↦ within
]

-- ---- the bytes

sets_not_refused : (kind : Class) → is_property kind ≡ true → ¬ (kind ≡ Refused)
sets_not_refused Plain h e = cc
sets_not_refused Toggle h e = cc
sets_not_refused Clear h e = cc
sets_not_refused Style h e = cc
sets_not_refused Refused h e = cc

-- ---- acting with the entries

concern_same : (held same sets clears other : Bool) → held ≡ true → sets ≡ true → clears ≡ false →
    ((held && (same && sets)) || (held && (clears && other))) ≡ same
concern_same true true true clears other h s c = refl
concern_same true false true false other h s c = refl
concern_same true false true true other h s c = cc
concern_same held same false clears other h s c = cc
concern_same false same sets clears other h s c = cc

-- an entry that a map holds concerns its own code alone
concerns-property : (groups code : ℕ) (prl : Prl) → IsProperty groups prl → concerns_code groups code prl ≡
    (code == prl.0)
concerns-property groups code prl h = concern_same (is_held groups prl.0) (code == prl.0) (is_property (class_of prl.0))
    (is_clear (class_of prl.0)) (not (is_kept_by_plain code)) h.held h.sets (sets_not_clears (class_of prl.0) h.sets)

none_above : (groups code : ℕ) (es : Entries) → T (below_all nat_cmp code es) → All (IsProperty groups) es →
    filter (concerns_code groups code) es ≡ []
none_above groups code [] h all = refl
none_above groups code (e ∷ es) h all =
    let above : code < e.0 = less_from code e.0 (both_first _ _ h) in
    let apart : (code == e.0) ≡ false = sym (unsigned_tied code e.0) ∙ ap is_eq (cmp_less code e.0 above) in
    let is : concerns_code groups code e ≡ false = concerns-property groups code e (All-head (IsProperty groups) e es
    all) ∙ apart in
    rw is (none_above groups code es (both_second _ _ h) (All-tail (IsProperty groups) e es all))

-- what the entries of a map leave at a code: the value that they have there, or what was there
pub value_after-entries_over : (groups code : ℕ) (es : Entries) (before : Option (List ℕ)) →
    T (is_sorted nat_cmp es) → All (IsProperty groups) es → value_after es groups code before ≡ option_or (find nat_cmp
    code es) before
value_after-entries_over groups code [] before h all = refl
value_after-entries_over groups code (e ∷ es) before h all =
    let rest = filter (concerns_code groups code) es in
    let property = All-head (IsProperty groups) e es all in
    rw (concerns-property groups code e property, unsigned_tied code e.0)
    (elim (code == e.0) as (λ b. (code == e.0) ≡ b → left_by (last_or None (cond b (e ∷ rest) rest)) before ≡
    option_or (cond b (Some e.1) (find nat_cmp code es)) before) [
      | true ↦ λ t.
          let same : code ≡ e.0 = eqb-true code e.0 t in
          let none = none_above groups code es (subst (λ k. T (below_all nat_cmp k es)) (sym same) (both_first _ _ h))
          (All-tail (IsProperty groups) e es all) in
          rw none (rw property.sets refl)
      | false ↦ λ t. value_after-entries_over groups code es before (both_second _ _ h) (All-tail (IsProperty groups) e
          es all)
    ] refl)

pub value_after-entries : (groups code : ℕ) (es : Entries) → T (is_sorted nat_cmp es) → All (IsProperty groups) es →
    value_after es groups code None ≡ find nat_cmp code es
value_after-entries groups code es h all = value_after-entries_over groups code es None h all ∙ or_none (find nat_cmp
    code es)

sets_names_none : (held : Bool) (kind : Class) → is_property kind ≡ true → (held && is_style kind) ≡ false
sets_names_none true Plain h = refl
sets_names_none true Toggle h = refl
sets_names_none true Clear h = cc
sets_names_none true Style h = cc
sets_names_none true Refused h = refl
sets_names_none false kind h = refl

names_none : (groups held : ℕ) (es : Entries) → All (IsProperty held) es → filter (names_style groups) es ≡ []
names_none groups held [] all = refl
names_none groups held (e ∷ es) all =
    let sets = (All-head (IsProperty held) e es all).sets in
    rw (sets_names_none (is_held groups e.0) (class_of e.0) sets) (names_none groups held es
    (All-tail (IsProperty held) e es all))

-- they name no style
pub style_of-entries : (groups held : ℕ) (es : Entries) → All (IsProperty held) es → style_named es groups ≡ None
style_of-entries groups held es all = rw (names_none groups held es all) refl

-- no place refuses one of them
pub none_refused : (held groups : ℕ) (es : Entries) → All (IsProperty held) es →
    All (λ prl. ¬ (IsRefusedIn groups prl.0)) es
none_refused held groups es all = All-weaker (IsProperty held) (λ prl. ¬ (IsRefusedIn groups prl.0)) (λ prl h refused.
    sets_not_refused (class_of prl.0) h.sets refused.1) es all

pub print_is : (m : Properties) → IsFormedMap m → IsPrintOf m (printed_list m)
print_is m formed =
    let spelt = spells_joined (entries m) (prls_of m formed) in
    record {
      spelt = spelt;
      accepted = λ groups. record {
        list = entries m;
        spelt = spelt;
        accepted = none_refused formed.0 groups
            (entries m) (properties_of formed.0 m formed.1);
      };
      back = λ groups prls here read.
          let same : prls ≡ entries m = spelt_unique (printed_list m) prls (entries m) read spelt in
          let all = properties_of groups m here in
          subst (λ l. ArePropertiesAfter l groups empty m × (style_named l groups ≡ None)) (sym same) (
            (λ code. get-entries m code ∙ sym (ap (value_after (entries m) groups code) (get-empty nat_cmp code) ∙
                value_after-entries groups code (entries m) (entries_sorted m) all)),
            style_of-entries groups groups
                (entries m) all,
          );
    }

-- how long an operand is
abbrev pub operand_len : OperandSize → List ℕ → ℕ
operand_len (Fixed size) value = length value
operand_len CountedByByte value = 1 + length value
operand_len CountedByWord value = 2 + length value

length-operand_bytes : (size : OperandSize) (value : List ℕ) → length (operand_bytes size value) ≡ operand_len size
    value
length-operand_bytes (Fixed size) value = refl
length-operand_bytes CountedByByte value = omega arith
length-operand_bytes CountedByWord value = length-append (number_bytes 2 (length value + 1)) value ∙ ap
    (λ n. n + length value) (length-number_bytes 2 (length value + 1))

pub length-spelling_of : (prl : Prl) (size : OperandSize) → size_of prl.0 ≡ size → length (spelling prl) ≡ 2 +
    operand_len size prl.1
length-spelling_of prl size e =
    let parts = length-append (number_bytes 2 prl.0) (operand_bytes (size_of prl.0) prl.1) in
    let code = length-number_bytes 2 prl.0 in
    let operand = ap (λ s. length (operand_bytes s prl.1)) e ∙ length-operand_bytes size prl.1 in
    omega arith
