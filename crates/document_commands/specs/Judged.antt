-- What checking a file that was read came to.
use Rattle.std.specs.Prelude.{◌≡◌, ℕ, List}
use Rattle.doc_bits.specs.declared.places.Where.TheVariants.{File}
use Rattle.doc_bits.specs.Rules.{Rules, Hold}
use Rattle.doc_bits.specs.Places.{Place, rules_in}
use Rattle.cfb_streams.specs.Container.{container_rules}
use Rattle.doc_model.specs.declared.document.Document.{Document}
use Rattle.plain_doc.specs.Sound.{IsSound}
use Rattle.file_rules.specs.declared.fault.ReadFault.{ReadFault}
use Rattle.file_rules.specs.declared.fault.ReadFault.TheVariants as fault
use Rattle.doc_read.specs.Holds.{HoldsDocument, all_rules}
use Rattle.run_stages.specs.declared.stage.Stage.{Stage}
use Rattle.run_stages.specs.declared.stage.Stage.TheVariants.{Go, Stop}
use Rattle.run_stages.specs.Judged.{IsRuleRefusal}
use Rattle.run_stages.specs.Lines.{rule_line}
use Rattle.run_stages.specs.Outcomes.{Outcome, says}

-- the line and the status of a refusal
abbrev pub NamesRule : ReadFault → (name : List ℕ) → Outcome → Type 0
NamesRule (fault.Refused number part offset) name outcome = outcome ≡ says 1 (rule_line name number (part, offset))
NamesRule fault.Memory name outcome = ⊥

-- the document of the bytes of a name, or how the run ends
abbrev pub IsJudgedFile : (name file : List ℕ) → Stage Document → Type 0
IsJudgedFile name file (Go document) = Hold (all_rules file) × (HoldsDocument file document × IsSound document)
IsJudgedFile name file (Stop ending) = IsRuleRefusal (all_rules file) name ending

-- the rules of a container, by their places in the file
abbrev pub rules_by_place : List ℕ → Rules Place
rules_by_place file = rules_in File (container_rules file)
