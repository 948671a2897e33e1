-- What checking a file says of a run.
use Rattle.std.proofs.Common.{◌≡◌, ◌∙◌, inl, inr, ap, sym, ℕ, List, arith}
use Rattle.doc_bits.specs.declared.places.Where.TheVariants.{File}
use Rattle.doc_bits.specs.Rules.{Rules, IsSingle}
use Rattle.doc_bits.specs.Places.{Place, Upto}
use Rattle.doc_bits.proofs.Public.{place_one, first_agrees}
use Rattle.cfb_streams.specs.Container.{container_rules}
use Rattle.cfb_streams.proofs.Public.{container_single}
use Rattle.file_rules.specs.declared.fault.ReadFault.{ReadFault}
use Rattle.file_rules.specs.declared.fault.ReadFault.TheVariants as fault
use Rattle.file_rules.specs.Faults.{IsReadFault}
use Rattle.file_rules.proofs.Public.{single_in}
use Rattle.run_stages.specs.Lines.{rule_line}
use Rattle.run_stages.specs.Outcomes.{Outcome, says}
use Rattle.run_stages.specs.Judged.{IsRuleRefusal, Judges}
use Rattle.document_commands.specs.Judged.{NamesRule, rules_by_place}
use Rattle.run_stages.specs.Outcomes.{IsAfterReading}
use Rattle.run_stages.proofs.Public.{said_inside}

-- the line of a refusal names the first broken rule
pub names-refused :
    (rules : Rules Place) (refusal : ReadFault) (name : List ℕ) (outcome : Outcome) → IsReadFault rules refusal →
    NamesRule refusal name outcome → IsRuleRefusal rules name outcome
names-refused rules (fault.Refused number part offset) name outcome first named =
    record { rule = number; place = (part, offset); first = first; ends = named }
names-refused rules fault.Memory name outcome first named = absurd named

-- the rules of a container speak of one object each
pub streams_single : (file : List ℕ) → IsSingle (rules_by_place file)
streams_single file = single_in File (container_rules file) (container_single file)
