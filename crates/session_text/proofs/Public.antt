-- What other crates may cite of these proofs.

-- The changes of an accepted edit are steps of a text.
pub use Rattle.session_text.proofs.CommandLemmas.{commands_are_steps, pieces_are_few}
-- The added text while the blocks of changes are put last, one after another.
pub use Rattle.session_text.proofs.GrowLemmas.{length-joined, sound_count, whole_length}
-- The splices of a command, one after another: what represents the whole text, how many pieces there are, and what
pub use Rattle.session_text.proofs.PutLemmas.{length-marked}
-- The sections of a session while the main text is spliced and while their properties are set.
pub use Rattle.session_text.proofs.SectionLemmas.{properties-append}
-- What a session begins with.
pub use Rattle.session_text.proofs.StartLemmas.{properties_are_listed, saved_sections_stand, saved_texts_stand}
pub use Rattle.session_text.proofs.StartLemmas.{text_counted}
-- What a session keeps of its text while its pieces are spliced and modified.
pub use Rattle.session_text.proofs.TextLemmas.{none_printed}
