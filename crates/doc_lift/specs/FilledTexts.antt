-- A text that is read with its gaps filled.
use Rattle.std.specs.Prelude.{◌≡◌, ◌⊎◌, ◌<◌, ◌≤◌, ◌^◌, ℕ, List, length}
use Rattle.doc_bits.specs.Rules.{Rules, Hold, given}
use Rattle.doc_bits.specs.Places.{Place}
use Rattle.cfb_streams.specs.Contents.{Contents}
use Rattle.fib_versions.specs.Versions.{all_text_length}
use Rattle.doc_model.specs.declared.document.Document.{Document}
use Rattle.file_rules.specs.Source.{DocSource}
use Rattle.file_rules.specs.PartRules.{part_rules}
use Rattle.file_rules.specs.FileRules.{FileText, IsFrontOf, doc_source_of, rules_of_pieces}
use Rattle.doc_read.specs.Opened.{IsReadDocument}
use Rattle.doc_meaning.specs.Filled.{BreaksAtGap, CanFill, FillsStreams}

-- streams that can be filled, and are; the table stream is no longer than the longest file
pub record AreFilledStreams (wd old_wd old_table new_wd new_table : List ℕ) : Type 0 where
  pub can : CanFill wd old_wd old_table
  pub fills : FillsStreams wd old_wd old_table new_wd new_table
  pub small : length new_wd < 2 ^ 32
  pub short : length new_table ≤ 7143936

-- the front of a text of streams that breaks none of the rules 26 to 32, and of which the units of all CPs are these
pub record IsFrontWith (wd new_wd new_table units : List ℕ) (text : FileText) : Type 0 where
  pub rules : Hold (rules_of_pieces new_wd new_table (all_text_length wd))
  pub front : IsFrontOf new_wd new_table text units

-- that of filled streams
pub record IsFilledOf (wd old_wd old_table units : List ℕ) (filled : FileText) : Type 0 where
  pub streams : AreFilledStreams wd old_wd old_table filled.wd filled.table
  pub text : IsFrontWith wd filled.wd filled.table units filled

-- the same, where a gap breaks the first broken rule
pub record IsFilledText (wd units : List ℕ) (read : DocSource) (filled : FileText) : Type 0 where
  pub gap : BreaksAtGap read
  pub is : IsFilledOf wd read.wd read.table units filled

-- what is read of a text: such a text, where there is one
abbrev pub IsFilledRead : (wd units : List ℕ) → FileText → FileText → Type 0
IsFilledRead wd units read filled =
    IsFilledText wd units (doc_source_of read) filled
    ⊎ (((other : FileText) → ¬ IsFilledText wd units (doc_source_of read) other) × (filled ≡ read))

-- the rules 33 to 57, asked of it
abbrev pub filled_rules : (wd units : List ℕ) → FileText → Rules Place
filled_rules wd units read = given (IsFilledRead wd units read) (λ filled. part_rules (doc_source_of filled))

-- it breaks none of them, and its document is this one
pub record IsReadFilled (wd units : List ℕ) (contents : Contents) (read : FileText) (document : Document) : Type 0 where
  pub filled : FileText
  pub filled_is : IsFilledRead wd units read filled
  pub rules : Hold (part_rules (doc_source_of filled))
  pub document_is : IsReadDocument contents filled document
