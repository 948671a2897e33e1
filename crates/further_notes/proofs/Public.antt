-- What other crates may cite of these proofs.

-- A file that breaks none of the rules 1 to 57 that are left means one document.
pub use Rattle.further_notes.proofs.MeantLemmas.{front_fields, meant_one}
-- Endnotes and comments become notes in one way, and bookmarks stay formed.
pub use Rattle.further_notes.proofs.SpliceLemmas.{has_some, splice_formed, splice_is_one}
-- Each text of a further story that became a note is held whole, and each note that was there.
pub use Rattle.further_notes.proofs.StoryLemmas.{stories_are_held}
