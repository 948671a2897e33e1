use Rattle.std.specs.Prelude.{slice_index}
use Rattle.std.proofs.Common.{◌≡◌, ◌<◌, ℕ, length}
use Rattle.page_copies.specs.Names.{named_flag}
use Rattle.page_copies.proofs.NameLemmas.{named_by_ranges}
use Rattle.page_copies.proofs.names.named_pages.Given as goal

-- the pages that the first ranges name have their marks
abbrev pub invariant-loop-k : goal.invariant-loop-k
invariant-loop-k l = record {
  len : length l.marks.items ≡ l.places;
  marks : (number : ℕ) → number < l.places →
      slice_index l.marks.items number ≡ named_flag (named_by_ranges l.bin l.k number);
}
