-- The rules of the streams of a file of any program, 15 to 57: those of doc_load's `contents_rules`, of which 22 and 24
-- are gone, and 16 to 18, 21, 23 and 28 are weaker. The rules 27 to 32 are asked of the Clx, and 33 to 57 of the
-- streams, in which the codes that are not read are skipped and gaps filled. Their places are those of the file.
use Rattle.std.specs.Prelude.{◌≡◌, ◌⊎◌, ℕ, List, ◌++◌, drop}
use Rattle.doc_bits.specs.declared.places.Where.TheVariants.{File, Wd}
use Rattle.doc_bits.specs.Rules.{Rules, rule, ◌then◌, given, Hold}
use Rattle.doc_bits.specs.Places.{Place, rules_in}
use Rattle.cfb_streams.specs.Contents.{Contents, HasNamed}
use Rattle.cfb_streams.specs.Names.{wd_name}
use Rattle.fib_form.specs.Fib.{form_size}
use Rattle.fib_form.specs.FibFields.{fib_fields}
use Rattle.fib_form.specs.FibBytes.{written_fib}
use Rattle.fib_form.specs.declared.form.Form.TheVariants.{Early}
use Rattle.fib_versions.specs.Early.{early_pairs, early_fields, early_wd}
use Rattle.fib_versions.specs.Versions.{all_text_length}
use Rattle.fib_versions.specs.VersionRules.{version_rules}
use Rattle.page_copies.specs.Pages.{SkipsPages}
use Rattle.file_rules.specs.Source.{DocSource}
use Rattle.file_rules.specs.PartRules.{part_rules}
use Rattle.file_rules.specs.FileRules.{FileText, HasNoStream, IsFrontOf, doc_source_of, table_stream_name}
use Rattle.file_rules.specs.FileRules.{rules_of_pieces}
use Rattle.doc_meaning.specs.Skipped.{bin_tables_of, plcf_sed, SkipsTable, KeepsSepxs}
use Rattle.doc_meaning.specs.Apart.{ReadsClx}
use Rattle.doc_lift.specs.FilledTexts.{IsFilledRead}

-- WordDocument with a FIB of the early form in front, which has the same counts and the pairs of the same parts
abbrev pub lifted_wd : List ℕ → List ℕ
lifted_wd wd = early_wd wd (early_pairs wd)

-- the streams in which the codes that are not read are skipped
pub record SkipsStreams (wd table new_wd new_table : List ℕ) : Type 0 where
  pub pages : List ℕ
  pub skips : SkipsPages (bin_tables_of wd table) wd pages
  pub front : new_wd ≡ written_fib (early_fields wd (early_pairs wd)) ++ drop (form_size Early) pages
  pub fields : fib_fields new_wd ≡ early_fields wd (early_pairs wd)
  pub table_is : SkipsTable (early_pairs wd) table new_table

-- the front of a text of such streams, which breaks none of the rules 26 to 32, and of which the units of all CPs and
-- the Sepxs are those of the file
pub record IsSkippedText (wd table units : List ℕ) (text : FileText) : Type 0 where
  pub streams : SkipsStreams wd table text.wd text.table
  pub rules : Hold (rules_of_pieces text.wd text.table (all_text_length wd))
  pub front : IsFrontOf text.wd text.table text units
  pub sepxs : KeepsSepxs (plcf_sed wd table) wd text.wd

-- what is read in place of a text: such a text, where there is one
abbrev pub IsReadFor : (wd table units : List ℕ) → FileText → FileText → Type 0
IsReadFor wd table units text read =
    IsSkippedText wd table units read
    ⊎ (((other : FileText) → ¬ IsSkippedText wd table units other) × (read ≡ text))

-- what the rules on the parts read: this stream, the table stream, and the front of the text; or these streams with the
-- codes skipped that are not read; and these with the gaps filled, where one breaks the first broken rule
pub record IsLiftedSource (wd table : List ℕ) (source : DocSource) : Type 0 where
  pub text : FileText
  pub units : List ℕ
  pub front : IsFrontOf (lifted_wd wd) table text units
  pub read : FileText
  pub read_is : IsReadFor wd table units text read
  pub filled : FileText
  pub filled_is : IsFilledRead wd units read filled
  pub source_is : source ≡ doc_source_of filled

-- rules 26 to 57 of a table stream. The pieces have the CPs of all stories
abbrev pub read_table_rules : List ℕ → List ℕ → Rules Place
read_table_rules wd table =
    rules_of_pieces (lifted_wd wd) table (all_text_length wd) then given (IsLiftedSource wd table) part_rules

-- the same of that in which the codes in the Prcs that are not read are skipped
abbrev pub lifted_table_rules : List ℕ → List ℕ → Rules Place
lifted_table_rules wd table = given (ReadsClx (early_pairs wd) table) (read_table_rules wd)

-- rules 16 to 57
abbrev pub lifted_wd_rules : Contents → List ℕ → Rules Place
lifted_wd_rules contents wd =
    rules_in Wd (version_rules wd) then rules_in Wd (rule 25 (HasNoStream contents (table_stream_name wd) 10))
    then given (HasNamed contents.streams (table_stream_name wd)) (lifted_table_rules wd)

-- rules 15 to 57
abbrev pub lifted_contents_rules : Contents → Rules Place
lifted_contents_rules contents =
    rules_in File (rule 15 (HasNoStream contents wd_name 0))
    then given (HasNamed contents.streams wd_name) (lifted_wd_rules contents)
