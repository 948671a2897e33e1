-- How the document of a text with gaps is read, or refused.
use Rattle.std.specs.Prelude.{◌≡◌, ◌⊎◌, ◌<◌, ◌≤◌, ◌^◌, ℕ, List, length}
use Rattle.doc_bits.specs.Rules.{Hold}
use Rattle.cfb_streams.specs.Contents.{Contents}
use Rattle.fib_form.specs.Fib.{form_size}
use Rattle.fib_form.specs.FibFields.{fib_fields}
use Rattle.fib_form.specs.declared.form.Form.TheVariants.{Early}
use Rattle.fib_versions.specs.Early.{early_pairs, early_fields}
use Rattle.doc_model.specs.declared.document.Document.{Document}
use Rattle.file_rules.specs.declared.fault.ReadFault.{ReadFault}
use Rattle.file_rules.specs.declared.fault.ReadFault.TheVariants.{Refused, Memory}
use Rattle.file_rules.specs.Faults.{IsReadFault}
use Rattle.file_rules.specs.PartRules.{part_rules}
use Rattle.file_rules.specs.FileRules.{FileText, doc_source_of}
use Rattle.doc_read.specs.Opened.{IsReadDocument}
use Rattle.doc_meaning.specs.Filled.{IsGapRule}
use Rattle.doc_lift.specs.declared.gap_reading.ReadText.{ReadText}
use Rattle.doc_lift.specs.FilledTexts.{IsFilledOf, IsReadFilled}

-- the refusal names a rule that a gap breaks
abbrev pub IsGapFault : ReadFault → Type 0
IsGapFault (Refused number part offset) = IsGapRule number
IsGapFault Memory = ⊥

-- the text has these streams, with the early FIB of a WordDocument in front
pub record IsTextRead (wd : List ℕ) (text : FileText) (old_wd old_table : List ℕ) : Type 0 where
  pub wd_is : text.wd ≡ old_wd
  pub table_is : text.table ≡ old_table
  pub own : length wd < 2 ^ 32
  pub long : form_size Early ≤ length old_wd
  pub short : length old_wd ≤ 7143936
  pub fields : fib_fields old_wd ≡ early_fields wd (early_pairs wd)

-- the document of the filled text
pub record IsReadAtGaps (wd old_wd old_table units : List ℕ) (contents : Contents) (document : Document) : Type 0 where
  pub filled : FileText
  pub is : IsFilledOf wd old_wd old_table units filled
  pub rules : Hold (part_rules (doc_source_of filled))
  pub document_is : IsReadDocument contents filled document

-- the filled text is refused
pub record IsRefusedFilled (wd old_wd old_table units : List ℕ) (fault : ReadFault) : Type 0 where
  pub filled : FileText
  pub is : IsFilledOf wd old_wd old_table units filled
  pub refused : IsReadFault (part_rules (doc_source_of filled)) fault

-- or memory runs out
abbrev pub IsRefusedAtGap : (wd old_wd old_table units : List ℕ) → ReadFault → Type 0
IsRefusedAtGap wd old_wd old_table units fault =
    IsRefusedFilled wd old_wd old_table units fault ⊎ (fault ≡ Memory)

-- what is read of a text whose CPs have these units
pub record IsReadWith (wd : List ℕ) (contents : Contents) (text : FileText) (units : List ℕ) (read : ReadText) :
    Type 0 where
  pub document_is : IsReadFilled wd units contents text read.document
  pub units_are : read.units.items ≡ units
