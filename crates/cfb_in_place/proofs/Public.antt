-- What other crates may cite of these proofs.

-- The lists of which the file after is made are those of its bytes.
pub use Rattle.cfb_in_place.proofs.AfterLemmas.{added_is}
-- For who saves in a container's own sectors: that a change may be put there, and what the file after has.
pub use Rattle.cfb_in_place.proofs.CallerLemmas.{can_append, has_grown, has_table, named_bytes, stays_in_place}
-- What is read of the file after a save.
pub use Rattle.cfb_in_place.proofs.ContentsAgain.{grown_bytes_are}
-- The save of the two streams that have the names, and what is read of the file after.
pub use Rattle.cfb_in_place.proofs.InPlaceLemmas.{ok_more}
-- A stream that stays in its place.
pub use Rattle.cfb_in_place.proofs.PlaceLemmas.{long_one, twice_in_place}
