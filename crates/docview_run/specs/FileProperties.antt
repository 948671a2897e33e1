-- The properties of a file are printed.
use Rattle.std.specs.Prelude.{◌≡◌, ℕ, List, Option}
use Rattle.doc_bits.specs.declared.places.Where.TheVariants.{File}
use Rattle.doc_bits.specs.Rules.{Rules}
use Rattle.doc_bits.specs.Places.{Place, rules_in}
use Rattle.doc_outer.specs.Held.{Files}
use Rattle.cfb_streams.specs.Container.{container_rules}
use Rattle.property_text.specs.Printable.{HasNoControls}
use Rattle.run_stages.specs.Judged.{Judges}
use Rattle.run_stages.specs.Outcomes.{Outcome, says}
use Rattle.run_stages.specs.Stages.{BreaksLengthRule, ReadsNamedFile}

-- the rules of a container, by their places in the file
abbrev pub rules_in_file : List ℕ → Rules Place
rules_in_file file = rules_in File (container_rules file)

-- a text without controls is printed; which it is no clause says
pub record PrintsProperties (file : List ℕ) (outcome : Outcome) : Type 0 where
  pub text : List ℕ
  pub plain : HasNoControls text
  pub ends : outcome ≡ says 0 text

-- a file is checked as a container, and its properties are printed
abbrev pub PropertiesOf : (name file : List ℕ) → Outcome → Type 0
PropertiesOf name file outcome = Judges (rules_in_file file) name (PrintsProperties file) outcome

-- the same of the file of a name, which is read whole
abbrev pub ShowsProperties : (name : List ℕ) → Option Files → Outcome → Type 0
ShowsProperties name held outcome = ReadsNamedFile name held (BreaksLengthRule name) (PropertiesOf name) outcome
