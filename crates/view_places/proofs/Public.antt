-- What other crates may cite of these proofs.

-- Paths of few elements, whose numbers have few digits.
pub use Rattle.view_places.proofs.FewLemmas.{AreFew, IsOuter, IsSmall, IsSmallSpan, IsSmallSpanIn, few_cost, few_either}
pub use Rattle.view_places.proofs.FewLemmas.{few_joined, few_none, few_one, few_within, heavy, outer_small}
-- What several crates use.
pub use Rattle.view_places.proofs.SharedLemmas.{shared_is_front}
