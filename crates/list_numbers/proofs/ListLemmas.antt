-- Lists and their levels.
use Rattle.std.proofs.Common.{◌≡◌, inl, inr, ℕ, zero, suc, ◌+◌, ◌*◌, ◌<◌, ◌≤◌, List, ◌∷◌, [], ◌++◌}
use Rattle.std.proofs.Common.{length, refl, sym, ap, ◌∙◌}
use Rattle.std.proofs.Common.{subst, arith, add-one}
use Rattle.std.proofs.lemmas.Bool.{cases_lt}
use Rattle.std.proofs.lemmas.List.{nil_from_length}
use Rattle.std.specs.Prelude.{Bool, ◌%◌, ◌==◌, if◌then◌else◌, slice_index}
use Rattle.doc_bits.specs.Number.{u16_at, u32_at, number_at}
use Rattle.doc_parts.specs.Levels.{levels_before, levels_of_list, level_start, level_end}
use Rattle.doc_parts.proofs.Public.{level_start-zero, level_start-more, levels_before-zero, levels_before-more}
use Rattle.doc_parts.proofs.Public.{tabulate-next, length-tabulate}
use Rattle.doc_model.specs.Carried.{AreListsWithLevels}
use Rattle.list_numbers.specs.declared.level.Level.{Level}
use Rattle.list_numbers.specs.declared.list_format.ListFormat.{ListFormat}
use Rattle.list_numbers.specs.Lists.{HaveWholeLevels, level_at, levels_from, list_format_at}
use Rattle.list_numbers.proofs.TabulatedLemmas.{tabulate_zero}
use Rattle.doc_parts.specs.Tabulated.{tabulate}

-- a part of no bytes counts no lists
pub no_count : (part : List ℕ) → length part ≡ 0 → 0 ≡ u16_at part 0
unfolding number_at
no_count part h = rw (nil_from_length part h) refl

-- levels behind levels
pub level_start-add : (bytes : List ℕ) (from n j : ℕ) → level_start bytes (level_start bytes from n) j ≡ level_start
    bytes from (n + j)
level_start-add bytes from n zero = level_start-zero bytes (level_start bytes from n) ∙ ap (level_start bytes from)
    (let e : n ≡ n + 0 = omega arith in e)
level_start-add bytes from n (suc j) =
    let before = level_start-add bytes from n j in
    let more = level_start-more bytes (level_start bytes from n) j in
    let here = level_start-more bytes from (n + j) in
    let e : n + j + 1 ≡ n + (j + 1) = omega arith in
    subst (λ m. level_start bytes (level_start bytes from n) m ≡ level_start bytes from (n + m)) (add-one j)
    (more ∙ (ap (level_end bytes) before ∙ (sym here ∙ ap (level_start bytes from) e)))

-- the levels before a list are no more than those before a later one
levels_before-up : (lst : List ℕ) (k n : ℕ) → k ≤ n → levels_before lst k ≤ levels_before lst n
levels_before-up lst k zero low = let e : k ≡ 0 = omega arith in rw e (omega arith)
levels_before-up lst k (suc n) low = elim (cases_lt k (suc n)) [
  | inl below ↦
      let ih = levels_before-up lst k n (omega arith) in
      let e = levels_before-more lst n in
      let n1 : n + 1 ≡ suc n = add-one n in
      rw (← n1, e) (omega arith)
  | inr same ↦ let e : k ≡ suc n = omega arith in rw e (omega arith)
]

-- the levels of a list that is there are whole
pub levels_whole : (lst levels : List ℕ) (k : ℕ) → AreListsWithLevels lst levels → k < u16_at lst 0 →
    HaveWholeLevels levels (level_start levels 0 (levels_before lst k)) (levels_of_list lst k)
levels_whole lst levels k are low j within =
    let before : ℕ = levels_before lst k in
    let up = levels_before-up lst (k + 1) (u16_at lst 0) (omega arith) in
    let more = levels_before-more lst k in
    let e : before + (j + 1) ≡ before + j + 1 = omega arith in
    let here : before + j < levels_before lst (u16_at lst 0) = omega arith in
    rw (level_start-add levels 0 before (j + 1), e) (are.whole.whole (before + j) here)

-- so many levels from a place on were read, up to another place
pub record HasReadLevels (bytes : List ℕ) (from : ℕ) (made : List Level) (place count : ℕ) : Type 0 where
  pub levels : made ≡ levels_from bytes from count
  pub at : place ≡ level_start bytes from count

pub no_levels_read : (bytes : List ℕ) (from : ℕ) → HasReadLevels bytes from [] from 0
no_levels_read bytes from = record {
  levels = sym (tabulate_zero (λ j. level_at bytes (level_start bytes from j)));
  at = sym (level_start-zero bytes from);
}

-- the next one is whole
pub next_is_whole : (bytes : List ℕ) (from count at j : ℕ) (levels : List Level) → HaveWholeLevels bytes from count →
    HasReadLevels bytes from levels at j → j < count → level_end bytes at ≤ length bytes
next_is_whole bytes from count at j levels whole h low = rw (h.at, ← level_start-more bytes from j) (whole j low)

pub level_read : (bytes : List ℕ) (from at j : ℕ) (levels : List Level) → HasReadLevels bytes from levels at j →
    HasReadLevels bytes from (levels ++ level_at bytes at ∷ []) (level_end bytes at) (j + 1)
level_read bytes from at j levels h = record {
  levels = rw (h.levels, h.at) (sym (tabulate-next (λ i. level_at bytes (level_start bytes from i)) j));
  at = rw h.at (sym (level_start-more bytes from j));
}

-- so many lists were read, and their levels up to a place
pub record HasReadLists (lst levels : List ℕ) (made : List ListFormat) (place count : ℕ) : Type 0 where
  pub lists : made ≡ tabulate (list_format_at lst levels) count
  pub at : place ≡ level_start levels 0 (levels_before lst count)

pub no_lists_read : (lst levels : List ℕ) → HasReadLists lst levels [] 0 0
no_lists_read lst levels = record {
  lists = sym (tabulate_zero (list_format_at lst levels));
  at = rw (levels_before-zero lst) (sym (level_start-zero levels 0));
}

-- the levels of the next list are whole
pub next_are_whole : (lst levels : List ℕ) (lists : List ListFormat) (at k : ℕ) → AreListsWithLevels lst levels →
    HasReadLists lst levels lists at k → k < u16_at lst 0 → HaveWholeLevels levels at (levels_of_list lst k)
next_are_whole lst levels lists at k are h low = rw h.at (levels_whole lst levels k are low)

pub list_read : (lst levels : List ℕ) (lists : List ListFormat) (at end k number count : ℕ) (simple : Bool)
    (made : List Level) → HasReadLists lst levels lists at k → number ≡ u32_at lst (2 + 28 * k) →
    simple ≡ (slice_index lst (2 + 28 * k + 26) % 2 == 1) → count ≡ (if simple then 1 else 9) →
    made ≡ levels_from levels at count → end ≡ level_start levels at count →
    HasReadLists lst levels (lists ++ (record { number = number; simple = simple; levels = made }) ∷ []) end (k + 1)
list_read lst levels lists at end k number count simple made h n s c m e =
    let all : count ≡ levels_of_list lst k = c ∙ ap (λ (b : Bool). if b then 1 else 9) s in
    record {
      lists = rw (h.lists, n, s, m, all, h.at) (sym (tabulate-next (list_format_at lst levels) k));
      at = e ∙ (ap (level_start levels at) all ∙ (ap (λ a. level_start levels a (levels_of_list lst k)) h.at
          ∙ (level_start-add levels 0 (levels_before lst k) (levels_of_list lst k) ∙ ap (level_start levels 0)
          (sym (levels_before-more lst k)))));
    }

-- a list that is counted is there
pub list_is_there : (lst levels : List ℕ) (k : ℕ) → AreListsWithLevels lst levels → k < u16_at lst 0 →
    2 + 28 * (k + 1) ≤ length lst
list_is_there lst levels k are low = elim (cases_lt 0 (length lst)) [
  | inl some ↦ let counted = are.counted some in omega arith
  | inr none ↦ let e = no_count lst (omega arith) in absurd (omega arith)
]

-- a 16-bit number of lists are few
pub few_lists : (lst levels : List ℕ) (made : List ListFormat) (place count most : ℕ) →
    HasReadLists lst levels made place count → count ≤ most → most < 65536 → length made < 65536
few_lists lst levels made place count most h within few =
    let size : length made ≡ count = ap length h.lists ∙ length-tabulate (list_format_at lst levels) count in
    omega arith
