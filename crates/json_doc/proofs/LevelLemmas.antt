-- The levels of lists, which are behind the part of the lists.
use Rattle.std.proofs.Common.{◌≡◌, inl, inr, ℕ, zero, suc, ◌+◌, ◌-◌, ◌*◌, ◌<◌, ◌≤◌, List, ◌++◌, length, take}
use Rattle.std.proofs.Common.{slice_index, refl, sym, ap, ◌∙◌, subst, arith, add-one, add-zero, length-append}
use Rattle.std.proofs.lemmas.Bool.{cases_lt}
use Rattle.std.proofs.lemmas.List.{get_or-append-add}
use Rattle.std.proofs.Math.Seq.{take-append_seam}
use Rattle.doc_bits.specs.Rules.{Hold, IsFirstOffset}
use Rattle.doc_bits.specs.Number.{u16_at}
use Rattle.doc_bits.proofs.Public.{number_at-after, zero_more}
use Rattle.doc_parts.specs.Levels.{level_count, level_end, level_start, list_part, level_rules, HasLists}
use Rattle.doc_parts.specs.Levels.{HaveLength}
use Rattle.doc_parts.proofs.Public.{level_start-zero, level_start-more}
use Rattle.doc_model.specs.Carried.{AreListsWithLevels}

-- a level behind the part ends as far behind it
level_end-behind : (lst levels : List ℕ) (at : ℕ) →
    level_end (lst ++ levels) (length lst + at) ≡ length lst + level_end levels at
level_end-behind lst levels at =
    let table = lst ++ levels in
    let from = length lst in
    let pap_place : from + at + 25 ≡ from + (at + 25) = omega arith in
    let chp_place : from + at + 24 ≡ from + (at + 24) = omega arith in
    let pap : slice_index table (from + at + 25) ≡ slice_index levels (at + 25) =
    ap (slice_index table) pap_place ∙ get_or-append-add lst levels (at + 25) 0 in
    let chp : slice_index table (from + at + 24) ≡ slice_index levels (at + 24) =
    ap (slice_index table) chp_place ∙ get_or-append-add lst levels (at + 24) 0 in
    let text : from + at + 28 + slice_index table (from + at + 25) + slice_index table (from + at + 24) ≡ from + (at +
    28 + slice_index levels (at + 25) + slice_index levels (at + 24)) = omega (arith, pap, chp) in
    let units : u16_at table (from + at + 28 + slice_index table (from + at + 25) + slice_index table (from + at + 24))
    ≡ u16_at levels (at + 28 + slice_index levels (at + 25) + slice_index levels (at + 24)) =
    ap (u16_at table) text
    ∙ number_at-after lst levels (at + 28 + slice_index levels (at + 25) + slice_index levels (at + 24)) 2 in
    omega (arith, text, units)

-- and so does each of them
level_start-behind : (lst levels : List ℕ) (k : ℕ) →
    level_start (lst ++ levels) (length lst) k ≡ length lst + level_start levels 0 k
level_start-behind lst levels zero =
    level_start-zero (lst ++ levels) (length lst) ∙ sym (ap (λ n. length lst + n) (level_start-zero levels 0)
    ∙ add-zero (length lst))
level_start-behind lst levels (suc k) =
    let next : suc k ≡ k + 1 = sym (add-one k) in
    ap (level_start (lst ++ levels) (length lst)) next ∙ level_start-more (lst ++ levels) (length lst) k
    ∙ ap (level_end (lst ++ levels)) (level_start-behind lst levels k)
    ∙ level_end-behind lst levels (level_start levels 0 k)
    ∙ ap (λ n. length lst + n) (sym (level_start-more levels 0 k) ∙ ap (level_start levels 0) (sym next))

part_is : (lst levels : List ℕ) → list_part (lst ++ levels) 0 (length lst) ≡ lst
part_is lst levels =
    let width : 0 + length lst - 0 ≡ length lst = omega arith in
    ap (λ n. take n (lst ++ levels)) width ∙ take-append_seam lst levels

have_behind : (lst levels : List ℕ) (len : ℕ) → HaveLength (lst ++ levels) 0 (length lst) len →
    len ≡ level_start levels 0 (level_count lst)
have_behind lst levels len have =
    let same : level_start (lst ++ levels) (0 + length lst) (level_count (list_part (lst ++ levels) 0 (length lst))) ≡
    level_start (lst ++ levels) (length lst) (level_count lst) =
    (λ i. level_start (lst ++ levels) (zero_more (length lst) i) (level_count (part_is lst levels i))) in
    let behind = level_start-behind lst levels (level_count lst) in
    omega (arith, have, same, behind)

-- where a level ends behind the part
level_behind : (lst levels : List ℕ) (k : ℕ) →
    level_start (lst ++ levels) (0 + length lst) k ≡ length lst + level_start levels 0 k
level_behind lst levels k =
    ap (λ n. level_start (lst ++ levels) n k) (zero_more (length lst)) ∙ level_start-behind lst levels k

counted : (lst levels : List ℕ) → Hold (level_rules (lst ++ levels) 0 (length lst)) → 0 < length lst →
    2 + 28 * u16_at lst 0 ≤ length lst
counted lst levels holds some = elim (cases_lt (length lst) (2 + 28 * u16_at lst 0)) [
  | inl less ↦ absurd (holds 0 (inl (
    refl,
    λ has. elim (subst HasLists (part_is lst levels) has) [
      | inl none ↦ omega (arith, none, some)
      | inr whole ↦ omega (arith, whole, less)
    ],
  )))
  | inr whole ↦ whole
]

whole_by : (lst levels : List ℕ) (k : ℕ) → Hold (level_rules (lst ++ levels) 0 (length lst)) → k < level_count lst →
    level_start levels 0 (k + 1) ≤ length levels
whole_by lst levels k holds below = elim (cases_lt (length levels) (level_start levels 0 (k + 1))) [
  | inl over ↦ absurd (holds (level_start (lst ++ levels) (0 + length lst) k) (inr (record {
    entry = k;
    below = subst (λ part. k < level_count part) (sym (part_is lst levels)) below;
    broken = record {
      here = refl;
      beyond = omega (arith, over, level_behind lst levels (k + 1), length-append lst levels);
    };
  })))
  | inr fits ↦ fits
]

-- a part that breaks no rule with its levels
pub levels_told : (lst levels : List ℕ) (len : ℕ) → Hold (level_rules (lst ++ levels) 0 (length lst)) →
    HaveLength (lst ++ levels) 0 (length lst) len → len ≡ length levels → AreListsWithLevels lst levels
levels_told lst levels len holds have same = record {
  counted = counted lst levels holds;
  whole = record {
    ends = sym same ∙ have_behind lst levels len have;
    whole = λ k below. whole_by lst levels k holds below;
    after = omega arith;
    within = omega arith;
  };
}

has_lists : (lst levels : List ℕ) → AreListsWithLevels lst levels → HasLists lst
has_lists lst levels are = elim (cases_lt 0 (length lst)) [
  | inl some ↦ inr (are.counted some)
  | inr none ↦ inl (omega (arith, none))
]

pub levels_hold : (lst levels : List ℕ) (place : ℕ) → AreListsWithLevels lst levels →
    ¬ (IsFirstOffset (level_rules (lst ++ levels) 0 (length lst)) 56 place)
levels_hold lst levels place are first = elim first.1.broken [
  | inl wrong ↦ wrong.1 (subst HasLists (sym (part_is lst levels)) (has_lists lst levels are))
  | inr among ↦
      let below = subst (λ part. among.entry < level_count part) (part_is lst levels) among.below in
      let fits = are.whole.whole among.entry below in
      let beyond = among.broken.beyond in
      omega (arith, fits, beyond, level_behind lst levels (among.entry + 1), length-append lst levels)
]

pub levels_length : (lst levels : List ℕ) (len : ℕ) → HaveLength (lst ++ levels) 0 (length lst) len →
    AreListsWithLevels lst levels → len ≡ length levels
levels_length lst levels len have are = have_behind lst levels len have ∙ sym are.whole.ends
