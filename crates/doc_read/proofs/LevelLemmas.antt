-- The levels of a document's lists, cut out of the table stream.
use Rattle.std.proofs.Common.{◌≡◌, inl, inr, ℕ, zero, suc, ◌+◌, ◌-◌, ◌*◌, ◌<◌, ◌≤◌, List, length, take, drop}
use Rattle.std.proofs.Common.{slice_index, slice_range, refl, sym, ap, ◌∙◌, subst, arith, add-one, length-take}
use Rattle.std.proofs.Common.{length-drop, take_all, get_or-take, get_or-drop}
use Rattle.std.proofs.lemmas.Bool.{cases_lt}
use Rattle.doc_bits.specs.declared.places.Where.TheVariants.{Table}
use Rattle.doc_bits.specs.Rules.{Hold}
use Rattle.doc_bits.specs.Number.{u16_at}
use Rattle.doc_bits.proofs.Public.{number_at-range}
use Rattle.doc_parts.specs.Levels.{level_count, level_end, level_start, AreLevelsFrom, list_part, level_rules}
use Rattle.doc_parts.specs.Levels.{HaveLength}
use Rattle.doc_parts.proofs.Public.{level_start-zero, level_start-more, level_start-up, level_count-empty, levels-none}
use Rattle.doc_model.specs.Carried.{AreListsWithLevels}
use Rattle.fib_form.specs.declared.table_parts.TablePart.TheVariants.{PlfLst}
use Rattle.file_rules.specs.Source.{DocSource, part_place, table_part_bytes}
use Rattle.file_rules.specs.ListRules.{rules_of_lists, HasLevels}
use Rattle.file_rules.proofs.Public.{levels_within}

-- a byte of a range
byte-range : (bytes : List ℕ) (from to i : ℕ) → from + i < to →
    slice_index (slice_range bytes from to) i ≡ slice_index bytes (from + i)
byte-range bytes from to i below =
    get_or-take (to - from) (drop from bytes) i 0 (omega arith) ∙ get_or-drop from bytes i 0

-- a level that ends within a range ends there as far from its begin
level_end-range : (table : List ℕ) (from to at : ℕ) → level_end table (from + at) ≤ to →
    from + level_end (slice_range table from to) at ≡ level_end table (from + at)
level_end-range table from to at within =
    let levels = slice_range table from to in
    let pap_place : from + (at + 25) ≡ from + at + 25 = omega arith in
    let chp_place : from + (at + 24) ≡ from + at + 24 = omega arith in
    let pap : slice_index levels (at + 25) ≡ slice_index table (from + at + 25) =
    byte-range table from to (at + 25) (omega arith) ∙ ap (λ i. slice_index table i) pap_place in
    let chp : slice_index levels (at + 24) ≡ slice_index table (from + at + 24) =
    byte-range table from to (at + 24) (omega arith) ∙ ap (λ i. slice_index table i) chp_place in
    let text : from + (at + 28 + slice_index levels (at + 25) + slice_index levels (at + 24)) ≡ from + at + 28 +
    slice_index table (from + at + 25) + slice_index table (from + at + 24) = omega arith in
    let units : u16_at levels (at + 28 + slice_index levels (at + 25) + slice_index levels (at + 24)) ≡ u16_at table
    (from + at + 28 + slice_index table (from + at + 25) + slice_index table (from + at + 24)) =
    number_at-range table from to (at + 28 + slice_index levels (at + 25) + slice_index levels (at + 24)) 2
    (omega arith) ∙ ap (λ i. u16_at table i) text in
    omega arith

-- levels that end within a range begin there as far from its begin
level_start-range : (table : List ℕ) (from to k : ℕ) → level_start table from k ≤ to →
    from + level_start (slice_range table from to) 0 k ≡ level_start table from k
level_start-range table from to zero within =
    rw (level_start-zero (slice_range table from to) 0, level_start-zero table from) (omega arith)
level_start-range table from to (suc k) within =
    let levels = slice_range table from to in
    let next : k + 1 ≡ suc k = add-one k in
    let here : level_start table from (suc k) ≡ level_end table (level_start table from k) =
    sym (ap (level_start table from) next) ∙ level_start-more table from k in
    let there : level_start levels 0 (suc k) ≡ level_end levels (level_start levels 0 k) =
    sym (ap (level_start levels 0) next) ∙ level_start-more levels 0 k in
    let up = level_start-up table from k (suc k) (omega arith) in
    let before : from + level_start levels 0 k ≡ level_start table from k =
    level_start-range table from to k (omega arith) in
    let ends : level_end table (from + level_start levels 0 k) ≡ level_end table (level_start table from k) =
    ap (level_end table) before in
    ap (λ n. from + n) there ∙ (level_end-range table from to (level_start levels 0 k) (omega arith) ∙
    (ends ∙ sym here))

-- levels that are cut out are whole
pub levels-cut : (table : List ℕ) (from to count : ℕ) → to ≡ level_start table from count → to ≤ length table →
    AreLevelsFrom (slice_range table from to) 0 count (length (slice_range table from to))
levels-cut table from to count ends within =
    let levels = slice_range table from to in
    let len : length levels ≡ to - from = omega (arith, length-take {A = ℕ}, length-drop {A = ℕ}) in
    let last : from + level_start levels 0 count ≡ level_start table from count =
    level_start-range table from to count (omega arith) in
    let end : length levels ≡ level_start levels 0 count = omega arith in
    record {
      ends = end;
      whole = λ k below. let up = level_start-up levels 0 (k + 1) count (omega arith) in omega arith;
      after = omega arith;
      within = omega arith;
    }

-- the front of a list that is as long as a front is that front
take_front : (n : ℕ) (bytes : List ℕ) → take (length (take n bytes)) bytes ≡ take n bytes
take_front n bytes =
    let len = length-take n bytes in
    elim (cases_lt (length bytes) n) [
      | inl over ↦
          let whole : length (take n bytes) ≡ length bytes = omega arith in
          take_all (length (take n bytes)) bytes (omega arith) ∙ sym (take_all n bytes (omega arith))
      | inr within ↦ let same : length (take n bytes) ≡ n = omega arith in ap (λ k. take k bytes) same
    ]

-- a part that is cut out by its own length is the part
list_part-same : (table : List ℕ) (at lcb : ℕ) →
    list_part table at (length (slice_range table at (at + lcb))) ≡ slice_range table at (at + lcb)
list_part-same table at lcb =
    let width : (n : ℕ) → at + n - at ≡ n = λ n. omega arith in
    let rest = drop at table in
    ap (λ n. take n rest) (width (length (slice_range table at (at + lcb)))) ∙ take_front (at + lcb - at) rest

-- a part that breaks no rule has the lists that its count says
lists-counted : (table : List ℕ) (at lcb : ℕ) → Hold (level_rules table at lcb) → 0 < length (list_part table at lcb)
    → 2 + 28 * u16_at (list_part table at lcb) 0 ≤ length (list_part table at lcb)
lists-counted table at lcb holds some =
    elim (cases_lt (length (list_part table at lcb)) (2 + 28 * u16_at (list_part table at lcb) 0)) [
      | inl less ↦ absurd (holds at (inl (refl, λ has. elim has [ inl none ↦ omega arith | inr whole ↦ omega arith ])))
      | inr whole ↦ whole
    ]

-- an empty part has no levels
levels-of_none : (table lst levels : List ℕ) (at len : ℕ) → length lst ≡ 0 →
    at + len ≡ level_start table at (level_count lst) → levels ≡ slice_range table at (at + len)
    → AreLevelsFrom levels 0 (level_count lst) (length levels)
levels-of_none table lst levels at len empty have bytes =
    let none : level_count lst ≡ 0 = level_count-empty lst empty in
    let end : level_start table at (level_count lst) ≡ at =
    ap (level_start table at) none ∙ level_start-zero table at in
    let cut = ap length bytes in
    let no_bytes : length levels ≡ 0 = omega (arith, cut, end, have, length-take {A = ℕ}) in
    rw (none, no_bytes) (levels-none levels 0 (omega arith))

-- the levels of a part that is not empty
levels-of_some : (table lst levels : List ℕ) (at lcb len : ℕ) → at + lcb ≤ length table → list_part table at lcb ≡ lst →
    Hold (level_rules table at lcb) → HaveLength table at lcb len →
    levels ≡ slice_range table (at + lcb) (at + lcb + len)
    → AreLevelsFrom levels 0 (level_count lst) (length levels)
levels-of_some table lst levels at lcb len within part holds have bytes =
    let ends : at + lcb + len ≡ level_start table (at + lcb) (level_count lst) =
    have ∙ ap (λ xs. level_start table (at + lcb) (level_count xs)) part in
    subst (λ xs. AreLevelsFrom xs 0 (level_count lst) (length xs)) (sym bytes)
    (levels-cut table (at + lcb) (at + lcb + len) (level_count lst) ends (levels_within table at lcb len within holds
    have))

-- a document that breaks no rule has its lists with their levels
pub lists-with_levels : (source : DocSource) (levels : List ℕ) → Hold (rules_of_lists source) →
    HasLevels source levels → AreListsWithLevels (table_part_bytes source PlfLst) levels
lists-with_levels source levels holds has =
    let table = source.table in
    let at = part_place source PlfLst in
    let lst = table_part_bytes source PlfLst in
    let lcb = length (table_part_bytes source PlfLst) in
    let level_holds : Hold (level_rules source.table (part_place source PlfLst) (length (table_part_bytes source
    PlfLst))) =
    λ place broken. holds (Table, place) (refl, broken) in
    let part : list_part source.table (part_place source PlfLst) (length (table_part_bytes source PlfLst)) ≡
    table_part_bytes
    source PlfLst = list_part-same table at _ in
    record {
      counted = subst (λ xs. 0 < length xs → 2 + 28 * u16_at xs 0 ≤ length xs) part (lists-counted table at lcb
          level_holds);
      whole = elim (cases_lt 0 lcb) [
        | inl some ↦
            let within : at + lcb ≤ length table = omega (arith, some, length-take {A = ℕ}, length-drop {A = ℕ}) in
            levels-of_some table lst levels at lcb has.len within part level_holds has.have has.bytes_are
        | inr none ↦
            let empty : length lst ≡ 0 = omega (arith, none) in
            levels-of_none table lst levels (at + lcb) has.len empty (has.have ∙ ap (λ xs. level_start table
            (at + lcb) (level_count xs)) part) has.bytes_are
      ];
    }

-- the levels are bytes of the table stream
pub levels-short : (source : DocSource) (levels : List ℕ) → HasLevels source levels →
    length levels ≤ length source.table
levels-short source levels has =
    let len = ap length has.bytes_are in omega (arith, len, length-take {A = ℕ}, length-drop {A = ℕ})
