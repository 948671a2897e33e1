-- What other crates may cite of these proofs.

-- Streams that are put last in a list of them.
pub use Rattle.cfb_streams.proofs.AddLemmas.{comes_before-trans}
-- The streams that are read, one after another, and the bytes of the mini stream.
pub use Rattle.cfb_streams.proofs.ContentLemmas.{chain_inside, match_more, mini_fat_inside, stored_room}
-- Names that are compared: as a test and as a relation. A file has one stream of a name.
pub use Rattle.cfb_streams.proofs.SameNameLemmas.{named_once, named_place, same_name-false, same_name-is}
-- Owners that take their sectors one after another, and the sectors that two of them have.
pub use Rattle.cfb_streams.proofs.SharingLemmas.{mini_fat_apart}
-- Each object of the rules is the only one of its kind, and their numbers ascend.
pub use Rattle.cfb_streams.proofs.SingleLemmas.{container_ascends, container_single, directory_unique, mini_fat_unique}
pub use Rattle.cfb_streams.proofs.SingleLemmas.{mini_stream_unique, outer_single}
-- What is read of bytes is bytes, and the units of names have 16 bits.
pub use Rattle.cfb_streams.proofs.StoredLemmas.{contents_stored, sectors_bytes}
-- A file has one answer: its streams in their order, each with its bytes, and the CLSID.
pub use Rattle.cfb_streams.proofs.UniqueLemmas.{contents_unique, lists_unique, storages_unique}
