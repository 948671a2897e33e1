-- How many lists have each code, and have it again, while they are counted.
use Rattle.std.specs.Prelude.{◌≡◌, ◌⊎◌, ℕ, ◌+◌, ◌<◌, ◌≤◌, List, [], ◌∷◌, ◌++◌, length, slice_index}
use Rattle.sprm_table.specs.Sprm.{Prl, SpellsSprmList, IsAcceptedList}
use Rattle.text_losses.specs.Counts.{has_code, has_again, lists_with, lists_again}
use Rattle.code_losses.specs.declared.counts.Tally.{Tally}
use Rattle.code_losses.specs.declared.counts.CodeCounts.{CodeCounts}
use Rattle.code_losses.specs.Tallies.{code_count, HasCodes, IsTally}

pub record HasAllCodes (counts : CodeCounts) : Type 0 where
  pub first : HasCodes counts.first
  pub again : HasCodes counts.again

-- a tally has these counts, of so many lists
pub record HasCodeCounts (tally : Tally) (seen : ℕ) (count : ℕ → ℕ) : Type 0 where
  pub codes : HasCodes tally
  pub counts : (code : ℕ) → code < code_count → slice_index tally.counts.items code ≡ count code
  pub low : (code : ℕ) → code < code_count → slice_index tally.lists.items code ≤ seen

-- these lists are counted
pub record AreCodeCounts (lists : List (List Prl)) (counts : CodeCounts) : Type 0 where
  pub seen : counts.seen ≡ length lists
  pub first : HasCodeCounts counts.first counts.seen (λ code. lists_with code lists)
  pub again : HasCodeCounts counts.again counts.seen (λ code. lists_again code lists)

-- these lists are counted, and the front of the next one
pub record IsListing (lists : List (List Prl)) (front : List Prl) (counts : CodeCounts) : Type 0 where
  pub seen : counts.seen ≡ length lists
  pub first :
      IsTally counts.first (counts.seen + 1) (λ code. lists_with code (lists ++ front ∷ []))
      (λ code. has_code code front)
  pub again :
      IsTally counts.again (counts.seen + 1) (λ code. lists_again code (lists ++ front ∷ []))
      (λ code. has_again code front)

-- the bytes spell the one list that is found, or are cut short
abbrev pub IsFoundPrlList : List ℕ → List (List Prl) → Type 0
IsFoundPrlList bytes found =
    ((prls : List Prl) × (SpellsSprmList bytes prls × (found ≡ prls ∷ [])))
    ⊎ ((¬ (IsAcceptedList bytes 0)) × (found ≡ []))

-- the lists of one part are counted besides
pub record CountsPart (is : List (List Prl) → Type 0) (lists : List (List Prl)) (new : CodeCounts) : Type 0 where
  pub found : List (List Prl)
  pub is_found : is found
  pub counted : AreCodeCounts (lists ++ found) new
