-- The levels after PlfLst.
use Rattle.std.proofs.Common.{◌≡◌, inl, inr, ℕ, zero, suc, ◌+◌, ◌-◌, ◌*◌, ◌%◌, ◌<◌, ◌≤◌, length, refl, sym, ap, ◌∙◌}
use Rattle.std.proofs.Common.{subst, arith, add-one, eq-eqb, below_more, List, take, drop}
use Rattle.std.proofs.lemmas.Bool.{ne_eqb, cases_lt}
use Rattle.std.specs.Prelude.{slice_index, slice_range}
use Rattle.doc_bits.specs.Number.{number_at, u16_at}
use Rattle.doc_bits.proofs.Public.{number_at-range}
use Rattle.std.proofs.lemmas.List.{nil_from_length, get_or-take, get_or-drop}
use Rattle.doc_bits.specs.Rules.{Hold, IsFirstOffset}
use Rattle.doc_parts.specs.Levels.{levels_before, levels_of_list, level_count, level_end, level_start, AreLevelsFrom}
use Rattle.doc_parts.specs.Levels.{StopsAtLevel, HasLists, list_part, level_rules}

pub levels_before-zero : (part : List ℕ) → levels_before part 0 ≡ 0
unfolding levels_before
levels_before-zero part = refl

-- one list more
pub levels_before-more : (part : List ℕ) (k : ℕ) → levels_before part (k + 1) ≡ levels_before part k + levels_of_list
    part k
unfolding levels_before
levels_before-more part k = rw add-one refl

pub level_start-zero : (table : List ℕ) (from : ℕ) → level_start table from 0 ≡ from
unfolding level_start
level_start-zero table from = refl

-- the next level
pub level_start-more : (table : List ℕ) (from k : ℕ) → level_start table from (k + 1) ≡ level_end table (level_start
    table from k)
unfolding level_start
level_start-more table from k = rw add-one refl

-- a simple list has one level more
pub levels_before-simple : (part : List ℕ) (k : ℕ) → slice_index part (2 + 28 * k + 26) % 2 ≡ 1 → levels_before part
    (k + 1) ≡ levels_before part k + 1
levels_before-simple part k h = levels_before-more part k ∙ ap (λ n. levels_before part k + n)
    (rw (eq-eqb (slice_index part (2 + 28 * k + 26) % 2) 1 h) refl)

-- another list has nine
pub levels_before-nine : (part : List ℕ) (k : ℕ) → (slice_index part (2 + 28 * k + 26) % 2 ≡ 1 → ⊥) →
    levels_before part (k + 1) ≡ levels_before part k + 9
levels_before-nine part k h = levels_before-more part k ∙ ap (λ n. levels_before part k + n)
    (rw (ne_eqb (slice_index part (2 + 28 * k + 26) % 2) 1 h) refl)

-- a level has at least 30 bytes
pub level_start-up : (table : List ℕ) (from j k : ℕ) → j ≤ k → level_start table from j ≤ level_start table from k
level_start-up table from j zero h = let e : j ≡ 0 = omega arith in rw e (omega arith)
level_start-up table from j (suc k) h = elim (cases_lt j (suc k)) [
  | inl low ↦
      let ih = level_start-up table from j k (omega arith) in
      let e = level_start-more table from k in
      let n : k + 1 ≡ suc k = add-one k in
      rw (← n, e) (omega arith)
  | inr same ↦ let e : j ≡ suc k = omega arith in rw e (omega arith)
]

-- before the first level
pub levels-none : (table : List ℕ) (from : ℕ) → from ≤ length table → AreLevelsFrom table from 0 from
levels-none table from h = record {
  ends = sym (level_start-zero table from);
  whole = λ k low. absurd (omega arith);
  after = omega arith;
  within = h;
}

-- one level more
pub levels-more : (table : List ℕ) (from k start end : ℕ) → AreLevelsFrom table from k start → end ≡ level_end table
    start → end ≤ length table → AreLevelsFrom table from (k + 1) end
levels-more table from k start end h e within =
    let next : end ≡ level_start table from (k + 1) = e ∙ (ap (level_end table) h.ends ∙ sym (level_start-more table
    from k)) in
    let before = h.after in
    record {
      ends = next;
      whole = below_more (λ j. level_start table from (j + 1) ≤ length table) k h.whole (rw (← next) within);
      after = omega arith;
      within = within;
    }

-- a level that leaves the table stream
pub levels-stop : (table : List ℕ) (from count k start : ℕ) → k < count → AreLevelsFrom table from k start →
    length table < level_end table start → StopsAtLevel table from count start
levels-stop table from count k start below h over = record {
  level = k;
  below = below;
  levels = h;
  leaves = record { here = h.ends; beyond = rw (level_start-more table from k, ← h.ends) over };
}

-- whole levels after a part that has its lists break no rule
pub levels_hold : (table : List ℕ) (at lcb end : ℕ) → HasLists (list_part table at lcb) → AreLevelsFrom table
    (at + lcb) (level_count (list_part table at lcb)) end → Hold (level_rules table at lcb)
levels_hold table at lcb end lists levels = λ p w. elim w [
  | inl x ↦ x.1 lists
  | inr y ↦ let over = y.broken.beyond in let whole = levels.whole y.entry y.below in omega arith
]

-- a part without its lists
pub lists_missing : (table : List ℕ) (at lcb : ℕ) → ¬ (HasLists (list_part table at lcb)) →
    IsFirstOffset (level_rules table at lcb) 56 at
lists_missing table at lcb none = (
  refl,
  record {
    broken = inl (refl, none);
    least = λ p w. elim w [
      | inl x ↦ let e = x.0 in omega arith
      | inr y ↦
          let e = y.broken.here in
          let up = level_start-up table (at + lcb) 0 y.entry (omega arith) in
          let first = level_start-zero table (at + lcb) in
          omega arith
    ];
  },
)

-- the first level that leaves the table stream
pub level_leaves : (table : List ℕ) (at lcb place : ℕ) → HasLists (list_part table at lcb) → StopsAtLevel table
    (at + lcb) (level_count (list_part table at lcb)) place → IsFirstOffset (level_rules table at lcb) 56 place
level_leaves table at lcb place lists h = (
  refl,
  record {
    broken = inr (record { entry = h.level; below = h.below; broken = h.leaves });
    least = λ p w. elim w [
      | inl x ↦ absurd (x.1 lists)
      | inr y ↦ elim (cases_lt y.entry h.level) [
        | inl low ↦ let over = y.broken.beyond in let whole = h.levels.whole y.entry low in absurd (omega arith)
        | inr high ↦
            let e = y.broken.here in
            let here = h.leaves.here in
            let up = level_start-up table (at + lcb) h.level y.entry high in
            omega arith
      ]
    ];
  },
)

-- no bytes are no lists
pub level_count-empty : (part : List ℕ) → length part ≡ 0 → level_count part ≡ 0
unfolding levels_before number_at
level_count-empty part h = rw (nil_from_length part h) refl

-- ---- levels that are within a table stream

-- a byte of a part
index_inside : (table levels : List ℕ) (from i : ℕ) → slice_range table from (from + length levels) ≡ levels →
    i < length levels → slice_index table (from + i) ≡ slice_index levels i
index_inside table levels from i e h =
    let size : from + length levels - from ≡ length levels = omega arith in
    let cut : take (length levels) (drop from table) ≡ levels = subst (λ n. take n (drop from table) ≡ levels) size e in
    sym (get_or-drop from table i 0) ∙ (sym (get_or-take (length levels) (drop from table) i 0 h) ∙ ap
    (λ xs. slice_index xs i) cut)

-- a level of a part ends where it ends in the table stream
level_inside : (table levels : List ℕ) (from at : ℕ) → slice_range table from (from + length levels) ≡ levels →
    level_end levels at ≤ length levels → level_end table (from + at) ≡ from + level_end levels at
level_inside table levels from at e low =
    let a = slice_index levels (at + 25) in
    let b = slice_index levels (at + 24) in
    let text : ℕ = at + 28 + a + b in
    let fits : text + 2 + 2 * u16_at levels text ≤ length levels = low in
    let paragraph : slice_index table (from + at + 25) ≡ a =
    (let place : from + at + 25 ≡ from + (at + 25) = omega arith in rw place (index_inside table levels from (at + 25)
    e (omega arith))) in
    let character : slice_index table (from + at + 24) ≡ b =
    (let place : from + at + 24 ≡ from + (at + 24) = omega arith in rw place (index_inside table levels from (at + 24)
    e (omega arith))) in
    let count : u16_at table (from + text) ≡ u16_at levels text =
    sym (number_at-range table from (from + length levels) text 2 (omega arith)) ∙ ap (λ xs. u16_at xs text) e in
    let here : from + at + 28 + slice_index table (from + at + 25) + slice_index table (from + at + 24) ≡ from +
    text = rw (paragraph, character) (omega arith) in
    rw (here, count) (omega arith)

starts_inside : (table levels : List ℕ) (from k : ℕ) → slice_range table from (from + length levels) ≡ levels →
    ((j : ℕ) → j < k → level_start levels 0 (j + 1) ≤ length levels) → level_start table from k ≡ from + level_start
    levels 0 k
starts_inside table levels from zero e whole = rw (level_start-zero table from, level_start-zero levels 0) (omega arith)
starts_inside table levels from (suc k) e whole =
    let ih = starts_inside table levels from k e (λ j h. whole j (omega arith)) in
    let n : k + 1 ≡ suc k = add-one k in
    let own = level_start-more levels 0 k in
    let low : level_end levels (level_start levels 0 k) ≤ length levels = rw (← own) (whole k (omega arith)) in
    subst (λ m. level_start table from m ≡ from + level_start levels 0 m) n
    (level_start-more table from k
    ∙ (ap (level_end table) ih
    ∙ (level_inside table levels from (level_start levels 0 k) e low ∙ ap (λ x. from + x) (sym own))))

-- whole levels that are from a place on are levels there
pub levels_inside : (table levels : List ℕ) (from n : ℕ) → from + length levels ≤ length table → slice_range table
    from (from + length levels) ≡ levels → AreLevelsFrom levels 0 n (length levels) → AreLevelsFrom table from n
    (from + length levels)
levels_inside table levels from n within e are = record {
  ends = ap (λ x. from + x) are.ends ∙ sym (starts_inside table levels from n e are.whole);
  whole = λ k h.
      let fits = are.whole k h in
      rw (starts_inside table levels from (k + 1) e (λ j low. are.whole j (omega arith))) (omega arith);
  after = omega arith;
  within = within;
}
