-- Going through a list whose codes are met one by one.
use Rattle.std.proofs.Common.{◌≡◌, ◌∙◌, sym, ap, subst, ℕ, List, [], ◌∷◌, ◌++◌, append_assoc, slice_range}
use Rattle.std.proofs.lemmas.List.{append-nil}
use Rattle.sprm_table.specs.Sprm.{Prl, SpellsSprmList}
use Rattle.sprm_table.specs.Cursor.{SprmCursor, left, TakesFirstPrl}
use Rattle.code_losses.specs.declared.counts.CodeCounts.{CodeCounts}
use Rattle.code_losses.specs.Counted.{IsListing}

-- the first entries of a list were met
pub record MeetsFront (prls : List Prl) (cursor : SprmCursor) (lists : List (List Prl)) (now : CodeCounts) : Type 0 where
  pub done : List Prl
  pub others : List Prl
  pub joined : prls ≡ done ++ others
  pub spelt : SpellsSprmList (left cursor) others
  pub listing : IsListing lists done now

-- one entry more
pub front_more : (prls : List Prl) (old new : SprmCursor) (lists : List (List Prl)) (now next : CodeCounts)
    (code from to : ℕ) → (front : MeetsFront prls old lists now) → TakesFirstPrl old new front.others code from to →
    ((done : List Prl) → (value : List ℕ) → IsListing lists done now →
    IsListing lists (done ++ (code, value) ∷ []) next) → MeetsFront prls new lists next
front_more prls old new lists now next code from to front takes meets =
    let entry : Prl = (code, slice_range old.bytes from to) in
    record {
      done = front.done ++ entry ∷ [];
      others = takes.others;
      joined = front.joined
          ∙ (ap (λ o. front.done ++ o) takes.is ∙ sym (append_assoc front.done (entry ∷ []) takes.others));
      spelt = takes.left;
      listing = meets front.done (slice_range old.bytes from to) front.listing;
    }

-- all entries were met
pub front_all : (prls : List Prl) (cursor : SprmCursor) (lists : List (List Prl)) (now : CodeCounts) →
    (front : MeetsFront prls cursor lists now) → front.others ≡ [] → IsListing lists prls now
front_all prls cursor lists now front none =
    subst (λ l. IsListing lists l now)
    (sym (append-nil front.done) ∙ (ap (λ o. front.done ++ o) (sym none) ∙ sym front.joined)) front.listing
