-- What other crates may cite of these proofs.

-- What is in effect is there.
pub use Rattle.effective_props.proofs.EffectsExist.{characters_there, paragraphs_there}
-- The layers of a character and of a paragraph mark.
pub use Rattle.effective_props.proofs.LayerLemmas.{match_now, named_bytes, styles_more}
-- That there is one answer.
pub use Rattle.effective_props.proofs.OneLemmas.{character_one, named_layers_one, paragraph_one}
-- Values laid over one another.
pub use Rattle.effective_props.proofs.ValueLemmas.{effective_more, find-more, none_put}
