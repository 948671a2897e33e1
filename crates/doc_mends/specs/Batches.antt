-- Ranges of one text, each of which begins where the one before it ends, or behind.
use Rattle.std.specs.Prelude.{◌≡◌, ℕ, ◌<◌, ◌≤◌, List, [], ◌∷◌, length, take, ⊤}
use Rattle.doc_bits.specs.declared.places.Story.{Story}
use Rattle.doc_mends.specs.declared.batches.Batch.{Batch}
use Rattle.doc_mends.specs.declared.mends.DeletedRange.{DeletedRange}

-- a range of this text begins at this place, or behind
pub record IsNext (story : Story) (at : ℕ) (range : DeletedRange) : Type 0 where
  pub story_is : range.story ≡ story
  pub ahead : at ≤ range.from

-- all are ranges of this text, the first of which begins at this place, or behind
abbrev pub RangesAscend : Story → ℕ → List DeletedRange → Type 0
RangesAscend story at [] = ⊤
RangesAscend story at (range ∷ ranges) = IsNext story at range × RangesAscend story range.to ranges

-- where the last of them ends, or this place where there is none
abbrev pub last_range_end : ℕ → List DeletedRange → ℕ
last_range_end at [] = at
last_range_end at (range ∷ ranges) = last_range_end range.to ranges

-- the first of the ranges are such, one at least
pub record IsFirstBatch (ranges : List DeletedRange) (batch : Batch) : Type 0 where
  pub some : 0 < length batch.ranges.now
  pub within : length batch.ranges.now ≤ length ranges
  pub front : batch.ranges.now ≡ take (length batch.ranges.now) ranges
  pub ascend : RangesAscend batch.story 0 batch.ranges.now
