-- Which edits are accepted, and why one is not.
use Rattle.std.specs.Prelude.{◌≡◌, ◌⊎◌, ℕ, ⊤}
use Rattle.doc_bits.specs.declared.places.Where.{Where}
use Rattle.doc_bits.specs.Places.{IsFirstPlace}
use Rattle.doc_model.specs.declared.document.Document.{Document}
use Rattle.plain_doc.specs.Sound.{IsSound, document_rules}
use Rattle.edit_script.specs.declared.commands.Command.{Command}
use Rattle.edit_ops.specs.declared.faults.EditFault.{EditFault}
use Rattle.edit_ops.specs.declared.faults.EditFault.TheVariants.{Range, Code, Rule, Limit, Memory}
use Rattle.edit_ops.specs.Ranges.{IsInRange}
use Rattle.edit_ops.specs.Codes.{HasValidCodes}
use Rattle.edit_ops.specs.Edits.{document_after}

-- the command is in range and its codes are right
pub record CanBeTried (document : Document) (command : Command) : Type 0 where
  pub range : IsInRange document command
  pub codes : HasValidCodes command

-- the rules that a document breaks by being too large
abbrev pub IsLimit : ℕ → Type 0
IsLimit rule = (rule ≡ 68) ⊎ ((rule ≡ 70) ⊎ (rule ≡ 71))

-- the changed document breaks this rule first, at this place
pub record BreaksFirst (document : Document) (command : Command) (rule : ℕ) (place : Where) (at : ℕ) : Type 0 where
  pub tried : CanBeTried document command
  pub first : IsFirstPlace (document_rules (document_after document command)) rule (place, at)

-- the changed document is sound
pub record IsAcceptedEdit (document : Document) (command : Command) : Type 0 where
  pub tried : CanBeTried document command
  pub sound : IsSound (document_after document command)

-- out of range; else wrong codes; else the first rule that the changed document breaks
abbrev pub IsEditFault : Document → Command → EditFault → Type 0
IsEditFault document command Range = ¬ (IsInRange document command)
IsEditFault document command Code = IsInRange document command × ¬ (HasValidCodes command)
IsEditFault document command (Rule rule place at) = BreaksFirst document command rule place at × ¬ (IsLimit rule)
IsEditFault document command (Limit rule place at) = BreaksFirst document command rule place at × IsLimit rule
IsEditFault document command Memory = ⊤

-- the first rule that a document breaks, as the fault of an edit
abbrev pub IsNamedRule : Document → EditFault → Type 0
IsNamedRule document Range = ⊥
IsNamedRule document Code = ⊥
IsNamedRule document (Rule rule place at) = IsFirstPlace (document_rules document) rule (place, at) × ¬ (IsLimit rule)
IsNamedRule document (Limit rule place at) = IsFirstPlace (document_rules document) rule (place, at) × IsLimit rule
IsNamedRule document Memory = ⊤
