-- What other crates may cite of these proofs.

-- The properties that a list makes, and a list of properties that grows.
pub use Rattle.direct_props.proofs.CharacterLemmas.{makes_properties, stays_formed}
-- A place that breaks no rule has direct properties, and they are well formed.
pub use Rattle.direct_props.proofs.ExistDirect.{character_there, mark_there, properties_there}
-- A place that breaks no rule has its list.
pub use Rattle.direct_props.proofs.ExistLists.{IsValid, right_of}
-- What is kept of lists, and what it says of places.
pub use Rattle.direct_props.proofs.KeptLemmas.{together_one}
-- There is one answer at each place, and one first broken rule.
pub use Rattle.direct_props.proofs.LawLemmas.{character_one, mark_one, page_rules-Ascends}
-- Where the rules on pages hold, each place is right, and has a right list; and the other way round.
pub use Rattle.direct_props.proofs.RightLemmas.{right_lists_are_valid, right_places_have_lists, right_places_hold}
pub use Rattle.direct_props.proofs.RightLemmas.{right_where_hold}
-- What rows of places represent, part by part.
pub use Rattle.direct_props.proofs.RowLemmas.{AreRows-nil, AreRows_push, places_of-nil, places_of_push}
-- The places around a place at which the list is the same.
pub use Rattle.direct_props.proofs.StretchLemmas.{bin_page_of, cut_rest}
