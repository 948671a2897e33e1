-- What is known of the ranges that were checked.
use Rattle.std.specs.Prelude.{◌≡◌, ◌^◌, ◌<◌, Bool, List, [], ◌∷◌, ◌++◌, map, All, if◌then◌else◌}
use Rattle.prop_map.specs.Formed.{IsPropertyMap, character_groups}
use Rattle.run_lists.specs.Spread.{expanded, total_len}
use Rattle.run_lists.specs.Places.{IsAtRunBegin}
use Rattle.doc_model.specs.declared.item.Item.{Item}
use Rattle.doc_model.specs.declared.document.Document.{Document}
use Rattle.doc_mends.specs.declared.mends.DeletedRange.{DeletedRange}
use Rattle.doc_mends.specs.declared.judging.ChpWalk.{ChpWalk}
use Rattle.doc_mends.specs.declared.judging.Judged.{Judged}
use Rattle.doc_mends.specs.declared.mends.Mend.TheVariants.{StrikeDeleted}
use Rattle.doc_mends.specs.Mends.{struck_ranges, strikes, kept_ranges}

pub record IsMendVerdict (document : Document) (ranges : List DeletedRange) (judged : Judged) : Type 0 where
  pub mends : judged.mends.items ≡ strikes document ranges
  pub struck : judged.struck.items ≡ struck_ranges document ranges
  pub kept : judged.kept.items ≡ kept_ranges document ranges

-- a range is put to those that are struck, or to those that stay
pub record AddsRange (range : DeletedRange) (can : Bool) (old new : Judged) : Type 0 where
  pub mends : new.mends.items ≡ old.mends.items ++ (if can then StrikeDeleted range ∷ [] else [])
  pub struck : new.struck.items ≡ old.struck.items ++ (if can then range ∷ [] else [])
  pub kept : new.kept.items ≡ old.kept.items ++ (if can then [] else range ∷ [])

-- the walk is over the runs of the properties of the text
pub record IsChpWalk (text : List Item) (walk : ChpWalk) : Type 0 where
  pub runs : expanded walk.runs.now ≡ map (λ item. item.chp) text
  pub few : total_len walk.runs.now < 2 ^ 32
  pub maps : All (IsPropertyMap character_groups) (expanded walk.runs.now)
  pub at : IsAtRunBegin walk.runs.now walk.cursor
