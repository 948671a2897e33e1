-- What joining two documents comes to.
use Rattle.std.specs.Prelude.{◌≡◌, ◌⊎◌, ℕ, ◌++◌, ◌<◌, ◌≤◌, List, codes}
use Rattle.std.specs.Fmt.{decimal}
use Rattle.doc_bits.specs.Places.{Place, IsFirstPlace}
use Rattle.doc_model.specs.declared.document.Document.{Document}
use Rattle.plain_doc.specs.Sound.{IsSound, document_rules}
use Rattle.full_save.specs.Layout.{FitsCompoundFile}
use Rattle.text_codes.specs.Shown.{line}
use Rattle.doc_join.specs.Join.{document_join, slots_together, most_slots}
use Rattle.document_commands.specs.declared.reply.Reply.{Reply}
use Rattle.document_commands.specs.declared.reply.Reply.TheVariants.{Refused}
use Rattle.document_commands.specs.declared.reply.Refusal.TheVariants.{Styles, Unsound}
use Rattle.run_stages.specs.Lines.{rule_line}
use Rattle.document_commands.specs.Saves.{Saves}

-- the slots of both sheets, which are more than a sheet has
abbrev pub styles_line : ℕ → List ℕ
styles_line slots = line (codes "join: styles " ++ decimal slots)

-- the joined document is sound, and is saved in full
pub record SavesJoined (first second : Document) (reply : Reply) : Type 0 where
  pub fits : slots_together first second ≤ most_slots
  pub sound : IsSound (document_join first second)
  pub saves : Saves (codes "join") (document_join first second) reply

-- the styles do not fit one sheet
pub record HasTooManyStyles (first second : Document) (reply : Reply) : Type 0 where
  pub over : most_slots < slots_together first second
  pub is : reply ≡ Refused Styles (styles_line (slots_together first second))

-- they fit, and the joined document breaks a rule: the line names the first one at its least place
pub record BreaksRuleJoined (first second : Document) (reply : Reply) : Type 0 where
  pub fits : slots_together first second ≤ most_slots
  pub rule : ℕ
  pub place : Place
  pub names : IsFirstPlace (document_rules (document_join first second)) rule place
  pub is : reply ≡ Refused Unsound (rule_line (codes "join") rule place)

abbrev pub Joins : Document → Document → Reply → Type 0
Joins first second reply =
    SavesJoined first second reply ⊎ (HasTooManyStyles first second reply ⊎ BreaksRuleJoined first second reply)

-- the styles fit one sheet, and the joined document is sound and fits a file
pub record CanJoin (first second : Document) : Type 0 where
  pub fits : slots_together first second ≤ most_slots
  pub sound : IsSound (document_join first second)
  pub room : FitsCompoundFile (document_join first second)
