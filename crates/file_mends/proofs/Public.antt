-- What other crates may cite of these proofs.

-- A broken rule is mended in one way, and what is read are bytes.
pub use Rattle.file_mends.proofs.OneLemmas.{fill_bytes, fill_one, mend_bytes, mend_hold, mend_one}
-- The changes of tab stops that are read: one list of their places, one copy of a file.
pub use Rattle.file_mends.proofs.StopsLemmas.{stops_bytes, stops_hold, stops_one}
