use Rattle.std.proofs.Common.{ℕ, ◌≡◌, ◌-◌, ◌<◌, length, slice_index_or, take}
use Rattle.fkp_pages.specs.declared.kind.PageKind.TheVariants.{Chpx}
use Rattle.direct_props.specs.PageRules.{IsValidPlace}
use Rattle.direct_props.specs.Stretches.{AddsCharacters}
use Rattle.direct_props.proofs.RowLemmas.{IsRest}
use Rattle.direct_props.proofs.reader.PlaceReader.push_character_runs.Given as goal

-- the places that are passed are right, and their properties are added
abbrev pub invariant-loop-left : goal.invariant-loop-left
invariant-loop-left l = record {
  rest : IsRest l.places l.left;
  same : l.self ≡ l.fn.self;
  right :
      (k : ℕ) → k < length l.places - length l.left →
      IsValidPlace Chpx l.fn.self.wd l.fn.self.bin (slice_index_or l.places k 0);
  added : AddsCharacters l.fn.self.wd l.fn.self.bin (take (length l.places - length l.left) l.places)
      l.fn.self.modifier l.fn.runs l.runs;
}

abbrev pub decreases-loop-left : goal.decreases-loop-left
decreases-loop-left l = length l.left
