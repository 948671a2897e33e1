-- What other crates may cite of these proofs.

-- Texts of digits, two digits a step.
pub use Rattle.edit_script.proofs.HexLemmas.{two}
-- Bytes spell one script at most, and one fault.
pub use Rattle.edit_script.proofs.ScriptLemmas.{fault_is_one, script_one}
-- The properties of an object are what its keys say.
pub use Rattle.edit_script.proofs.SettingsLemmas.{steps_found}
