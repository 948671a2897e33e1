-- What is found in a list, entry by entry.
use Rattle.std.proofs.Common.{◌≡◌, ◌∙◌, ap, sym, subst, refl, ℕ, Bool, true, false, List, [], ◌∷◌, ◌++◌, Option}
use Rattle.std.proofs.Common.{Some, None, append_assoc, slice_range, length, arith}
use Rattle.std.specs.Prelude.{option_map, slice_index, MatchOption}
use Rattle.std.specs.Option.{option_or}
use Rattle.std.specs.List.{filter, last_or}
use Rattle.std.proofs.lemmas.Option.{none-some}
use Rattle.std.proofs.lemmas.List.{append-nil}
use Rattle.std.proofs.lemmas.List.Elements.{filter-append}
use Rattle.sprm_table.specs.Sprm.{Prl, SpellsSprmList}
use Rattle.sprm_table.specs.Cursor.{SprmCursor, left, TakesFirstPrl}
use Rattle.sprm_table.proofs.Public.{spelt_unique}
use Rattle.huge_papx.specs.declared.lists.Sought.{Sought}
use Rattle.huge_papx.specs.Lists.{is_sought, sought_among, last_value, HasLastValue}
use Rattle.prop_map.proofs.Public.{last_or_both}

abbrev value_of : Option Prl → Option (List ℕ)
value_of o = option_map (λ (prl : Prl). prl.1) o

or_some : (u v : Option (List ℕ)) (y : List ℕ) → option_or (option_or u (Some y)) v ≡ option_or u (Some y)
or_some None v y = refl
or_some (Some x) v y = refl

after_last : (o : Option Prl) (xs : List Prl) →
    value_of (last_or o xs) ≡ option_or (value_of (last_or None xs)) (value_of o)
after_last o [] = refl
after_last o (x ∷ xs) =
    let rest = after_last (Some x) xs in
    rest
    ∙ (sym (or_some (value_of (last_or None xs)) (value_of o) x.1)
    ∙ ap (λ (u : Option (List ℕ)). option_or u (value_of o)) (sym rest))

-- the last value of two lists one after the other
pub last_value-append : (sought : Sought) (xs ys : List Prl) →
    last_value sought (xs ++ ys) ≡ option_or (last_value sought ys) (last_value sought xs)
last_value-append sought xs ys =
    let is : Prl → Bool = λ prl. is_sought sought prl.0 in
    ap (λ (l : List Prl). value_of (last_or None l)) (filter-append is xs ys)
    ∙ (ap value_of (last_or_both None (filter is xs) (filter is ys))
    ∙ after_last (last_or None (filter is xs)) (filter is ys))

pub one_sought : (sought : Sought) (code : ℕ) (value : List ℕ) (before : Option (List ℕ)) →
    is_sought sought code ≡ true → Some value ≡ option_or (last_value sought ((code, value) ∷ [])) before
one_sought sought code value before is = rw is refl

pub one_other : (sought : Sought) (code : ℕ) (value : List ℕ) (before : Option (List ℕ)) →
    is_sought sought code ≡ false → before ≡ option_or (last_value sought ((code, value) ∷ [])) before
one_other sought code value before is = rw is refl

-- the first entries of a list were met, and this is the last value among them
pub record FoundSoFar (sought : Sought) (prls : List Prl) (cursor : SprmCursor) (last : Option (List ℕ)) : Type 0 where
  pub done : List Prl
  pub others : List Prl
  pub joined : prls ≡ done ++ others
  pub spelt : SpellsSprmList (left cursor) others
  pub last_is : last ≡ last_value sought done

pub found_none : (sought : Sought) (prls : List Prl) (bytes : List ℕ) (cursor : SprmCursor) →
    cursor ≡ record { bytes = bytes; at = 0 } → SpellsSprmList bytes prls → FoundSoFar sought prls cursor None
found_none sought prls bytes cursor start spelt = record {
  done = [];
  others = prls;
  joined = refl;
  spelt = subst (λ (s : SprmCursor). SpellsSprmList (left s) prls) (sym start) spelt;
  last_is = refl;
}

pub found_more : (sought : Sought) (prls : List Prl) (old new : SprmCursor) (last next : Option (List ℕ))
    (code from to : ℕ) → (so_far : FoundSoFar sought prls old last) → TakesFirstPrl old new so_far.others code from to →
    next ≡ option_or (last_value sought ((code, slice_range old.bytes from to) ∷ [])) last →
    FoundSoFar sought prls new next
found_more sought prls old new last next code from to so_far takes is =
    let entry : Prl = (code, slice_range old.bytes from to) in
    record {
      done = so_far.done ++ entry ∷ [];
      others = takes.others;
      joined = so_far.joined
          ∙ (ap (λ (o : List Prl). so_far.done ++ o) takes.is
          ∙ sym (append_assoc so_far.done (entry ∷ []) takes.others));
      spelt = takes.left;
      last_is = is
          ∙ (ap (λ (o : Option (List ℕ)). option_or (last_value sought (entry ∷ [])) o) so_far.last_is
          ∙ sym (last_value-append sought so_far.done (entry ∷ [])));
    }

pub found_all : (sought : Sought) (prls : List Prl) (cursor : SprmCursor) (last : Option (List ℕ)) →
    (so_far : FoundSoFar sought prls cursor last) → so_far.others ≡ [] → last ≡ last_value sought prls
found_all sought prls cursor last so_far none =
    so_far.last_is
    ∙ ap (last_value sought)
    (sym (append-nil so_far.done) ∙ (ap (λ (o : List Prl). so_far.done ++ o) (sym none) ∙ sym so_far.joined))

-- a list has one last value
pub last_value_one : (sought : Sought) (list one other : List ℕ) → HasLastValue sought list one →
    HasLastValue sought list other → one ≡ other
last_value_one sought list one other a b =
    let prls : b.prls ≡ a.prls = spelt_unique list b.prls a.prls b.spelt a.spelt in
    cc (sym a.last ∙ (ap (last_value sought) (sym prls) ∙ b.last))

-- a list without entries has none
pub nothing_last : (sought : Sought) (list value : List ℕ) → SpellsSprmList list [] → HasLastValue sought list value → ⊥
nothing_last sought list value spelt has =
    let none : has.prls ≡ [] = spelt_unique list has.prls [] has.spelt spelt in
    absurd (cc (sym (ap (last_value sought) none) ∙ has.last))

-- what is found is the last value, or there is none
pub value_found : (sought : Sought) (list : List ℕ) (prls : List Prl) → SpellsSprmList list prls →
    (found : Option (List ℕ)) → found ≡ last_value sought prls →
    MatchOption found ((value : List ℕ) → ¬ HasLastValue sought list value) (HasLastValue sought list)
value_found sought list prls spelt None is = λ value has.
    none-some value
    (is ∙ (ap (last_value sought) (spelt_unique list prls has.prls spelt has.spelt) ∙ has.last))
value_found sought list prls spelt (Some value) is = record { prls = prls; spelt = spelt; last = sym is }

-- a value of the byte 01 alone
pub one_value : (value : List ℕ) → length value ≡ 1 → slice_index value 0 ≡ 1 → value ≡ 1 ∷ []
one_value [] len is = absurd (omega (arith, len))
one_value (x ∷ []) len is = ap (λ n. n ∷ []) is
one_value (x ∷ (y ∷ more)) len is = absurd (omega (arith, len))
