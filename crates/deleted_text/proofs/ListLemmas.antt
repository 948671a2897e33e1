-- What a list says of its text, entry by entry.
use Rattle.std.proofs.Common.{◌≡◌, ◌∙◌, ap, sym, subst, refl, ℕ, Bool, false, List, [], ◌∷◌, ◌++◌, Option}
use Rattle.std.proofs.Common.{Some, None, append_assoc, slice_range}
use Rattle.std.specs.List.{filter, last_or}
use Rattle.std.proofs.lemmas.List.{append-nil}
use Rattle.std.proofs.lemmas.List.Elements.{filter-append}
use Rattle.sprm_table.specs.Sprm.{Prl, SpellsSprmList}
use Rattle.sprm_table.specs.Cursor.{SprmCursor, left, TakesFirstPrl}
use Rattle.deleted_text.specs.Deletions.{is_deletion, deleted_after, deleted_by}
use Rattle.prop_map.proofs.Public.{last_or_both}

after_last : (before : Bool) (o : Option Prl) (xs : List Prl) →
    deleted_after (last_or o xs) before ≡ deleted_after (last_or None xs) (deleted_after o before)
after_last before o [] = refl
after_last before o (x ∷ xs) =
    after_last before (Some x) xs ∙ sym (after_last (deleted_after o before) (Some x) xs)

-- what two lists say one after the other
pub deleted_by-append : (before : Bool) (xs ys : List Prl) →
    deleted_by before (xs ++ ys) ≡ deleted_by (deleted_by before xs) ys
deleted_by-append before xs ys =
    ap (λ (l : List Prl). deleted_after (last_or None l) before) (filter-append is_deletion xs ys)
    ∙ (ap (λ (o : Option Prl). deleted_after o before)
    (last_or_both None (filter is_deletion xs) (filter is_deletion ys))
    ∙ after_last before (last_or None (filter is_deletion xs)) (filter is_deletion ys))

-- the first entries of a list were met, and this is what they say
pub record SaysSoFar (prls : List Prl) (cursor : SprmCursor) (deleted : Bool) : Type 0 where
  pub done : List Prl
  pub others : List Prl
  pub joined : prls ≡ done ++ others
  pub spelt : SpellsSprmList (left cursor) others
  pub says : deleted ≡ deleted_by false done

pub says_none : (prls : List Prl) (bytes : List ℕ) (cursor : SprmCursor) → cursor ≡ record { bytes = bytes; at = 0 } →
    SpellsSprmList bytes prls → SaysSoFar prls cursor false
says_none prls bytes cursor start spelt = record {
  done = [];
  others = prls;
  joined = refl;
  spelt = subst (λ (s : SprmCursor). SpellsSprmList (left s) prls) (sym start) spelt;
  says = refl;
}

pub says_more : (prls : List Prl) (old new : SprmCursor) (deleted next : Bool) (code from to : ℕ) →
    (so_far : SaysSoFar prls old deleted) → TakesFirstPrl old new so_far.others code from to →
    next ≡ deleted_by deleted ((code, slice_range old.bytes from to) ∷ []) → SaysSoFar prls new next
says_more prls old new deleted next code from to so_far takes says =
    let entry : Prl = (code, slice_range old.bytes from to) in
    record {
      done = so_far.done ++ entry ∷ [];
      others = takes.others;
      joined = so_far.joined
          ∙ (ap (λ (o : List Prl). so_far.done ++ o) takes.is
          ∙ sym (append_assoc so_far.done (entry ∷ []) takes.others));
      spelt = takes.left;
      says = says
          ∙ (ap (λ (b : Bool). deleted_by b (entry ∷ [])) so_far.says
          ∙ sym (deleted_by-append false so_far.done (entry ∷ [])));
    }

pub says_all : (prls : List Prl) (cursor : SprmCursor) (deleted : Bool) →
    (so_far : SaysSoFar prls cursor deleted) → so_far.others ≡ [] → deleted ≡ deleted_by false prls
says_all prls cursor deleted so_far none =
    so_far.says
    ∙ ap (deleted_by false)
    (sym (append-nil so_far.done) ∙ (ap (λ (o : List Prl). so_far.done ++ o) (sym none) ∙ sym so_far.joined))
