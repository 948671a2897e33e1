-- What other crates may cite of these proofs.

-- How large the full save of a small document is. It belongs to full_save.
pub use Rattle.edit_generator.proofs.FullSizeLemmas.{small_saves}
-- The edits of the generator: each is accepted on what those before it have come to, and keeps it so.
pub use Rattle.edit_generator.proofs.GeneratedEditLemmas.{blank_generated, document_formed, document_small}
pub use Rattle.edit_generator.proofs.GeneratedEditLemmas.{document_sound, edit_accepted, edit_generated, line_short}
-- How many bytes the parts have that a full save of what is generated writes beside its text and its bin tables.
pub use Rattle.edit_generator.proofs.GeneratedTableLemmas.{length-bins}
