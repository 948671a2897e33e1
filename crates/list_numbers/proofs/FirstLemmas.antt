-- The first list of a number, from the last list on.
use Rattle.std.proofs.Common.{◌≡◌, ℕ, ◌+◌, ◌<◌, ◌≤◌, ◌==◌, Bool, true, false, cond, List, [], ◌∷◌, length, get_or, drop}
use Rattle.std.proofs.Common.{Some, sym, ap, ◌∙◌, arith}
use Rattle.std.proofs.lemmas.List.{drop_more}
use Rattle.std.proofs.lemmas.Option.{same_Some, get_or_from_slice_get}
use Rattle.std.specs.Prelude.{◌-◌, slice_get}
use Rattle.std.specs.Cmp.{unsigned_tied}
use Rattle.std.specs.List.{position_from}
use Rattle.std.specs.Ordering.{nat_cmp}
use Rattle.std.specs.BTreeMap.{BTreeMap, get, Updates}
use Rattle.list_numbers.specs.declared.list_format.ListFormat.{ListFormat}

-- the tree has the first list of each number among those from a list on
pub record AreFirstFrom (lists : List ListFormat) (tree : BTreeMap ℕ ℕ) (k : ℕ) : Type 0 where
  pub within : k ≤ length lists
  pub firsts : (number : ℕ) → get nat_cmp tree number ≡ position_from (λ (list : ListFormat). list.number == number) k
      (drop k lists)

pub all_from_first : (lists : List ListFormat) (tree : BTreeMap ℕ ℕ) → AreFirstFrom lists tree 0 → (number : ℕ) →
    get nat_cmp tree number ≡ position_from (λ (list : ListFormat). list.number == number) 0 lists
all_from_first lists tree h number = h.firsts number

-- a list before those is before them
pub first_more : (lists : List ListFormat) (tree new : BTreeMap ℕ ℕ) (k : ℕ) (list : ListFormat) →
    AreFirstFrom lists tree k → 0 < k → slice_get lists (k - 1) ≡ Some list →
    Updates nat_cmp tree new list.number (Some (k - 1)) → AreFirstFrom lists new (k - 1)
first_more lists tree new k list h some there put =
    let within = h.within in
    let here : get_or lists (k - 1) list ≡ list = get_or_from_slice_get lists (k - 1) list list there in
    let next : k - 1 + 1 ≡ k = omega arith in
    let cut : drop (k - 1) lists ≡ list ∷ drop k lists = drop_more lists (k - 1) list (omega arith) ∙ (ap
    (λ l. l ∷ drop (k - 1 + 1) lists) here ∙ ap (λ n. list ∷ drop n lists) next) in
    record {
      within = omega arith;
      firsts = λ number.
          put.0 number ∙ (ap (λ b. cond b (Some (k - 1)) (get nat_cmp tree number)) (unsigned_tied list.number number)
          ∙ (ap (λ o. cond (list.number == number) (Some (k - 1)) o) (h.firsts number ∙ ap
          (λ n. position_from (λ (l : ListFormat). l.number == number) n (drop k lists)) (sym next))
          ∙ ap (position_from (λ (l : ListFormat). l.number == number) (k - 1)) (sym cut)));
    }

-- a place that is found is there
pub position_within : (p : ListFormat → Bool) (k i : ℕ) (xs : List ListFormat) → position_from p k xs ≡ Some i →
    i < k + length xs
position_within p k i [] e = cc
position_within p k i (x ∷ xs) e = elim (p x) as (λ b. cond b (Some k) (position_from p (k + 1) xs) ≡ Some i → i < k +
    length (x ∷ xs)) [
      | true ↦ λ is. let same = same_Some k i is in omega arith
      | false ↦ λ is. let rest = position_within p (k + 1) i xs is in omega arith
    ] e

pub first_within : (p : ListFormat → Bool) (i : ℕ) (xs : List ListFormat) → position_from p 0 xs ≡ Some i →
    i < length xs
first_within p i xs e = let h = position_within p 0 i xs e in omega arith
