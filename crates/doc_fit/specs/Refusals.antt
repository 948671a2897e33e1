-- Why a file is not opened.
use Rattle.std.specs.Prelude.{◌≡◌, ◌≢◌, ◌⊎◌, ◌≤◌, ℕ, List, length}
use Rattle.doc_bits.specs.Number.{u16_at}
use Rattle.doc_bits.specs.Places.{Place, IsFirstPlace}
use Rattle.cfb_streams.specs.Contents.{Contents, HasNamed}
use Rattle.cfb_streams.specs.Container.{HasContents}
use Rattle.cfb_streams.specs.Names.{wd_name}
use Rattle.file_rules.specs.FileRules.{table_stream_name}
use Rattle.run_stages.specs.Lines.{rule_line}
use Rattle.run_stages.specs.Outcomes.{Outcome, says}
use Rattle.doc_fit.specs.declared.refusing.FibVersion.{FibVersion}
use Rattle.doc_fit.specs.Lines.{not_word_line, encrypted_line}
use Rattle.doc_fit.specs.Rules.{fit_rules}

-- the file has WordDocument, with wIdent and nFib
pub record HasMainStream (file : List ℕ) : Type 0 where
  pub contents : Contents
  pub has : HasContents file contents
  pub wd : List ℕ
  pub named : HasNamed contents.streams wd_name wd
  pub long : 4 ≤ length wd

-- the streams have WordDocument
pub record HasMain (contents : Contents) : Type 0 where
  pub wd : List ℕ
  pub named : HasNamed contents.streams wd_name wd

-- and the table stream that its FIB uses
pub record HasTable (contents : Contents) (wd : List ℕ) : Type 0 where
  pub table : List ℕ
  pub named : HasNamed contents.streams (table_stream_name wd) table

-- the same of the streams that a file has, with wIdent and nFib
pub record HasOneMain (contents : Contents) : Type 0 where
  pub file : List ℕ
  pub has : HasContents file contents
  pub wd : List ℕ
  pub named : HasNamed contents.streams wd_name wd
  pub long : 4 ≤ length wd

-- wIdent and nFib of such a stream
pub record IsVersionIn (contents : Contents) (found : FibVersion) : Type 0 where
  pub wd : List ℕ
  pub named : HasNamed contents.streams wd_name wd
  pub long : 4 ≤ length wd
  pub ident : found.ident ≡ u16_at wd 0
  pub version : found.version ≡ u16_at wd 2

-- those of a file
pub record IsVersionOf (file : List ℕ) (found : FibVersion) : Type 0 where
  pub stream : HasMainStream file
  pub ident : found.ident ≡ u16_at stream.wd 0
  pub version : found.version ≡ u16_at stream.wd 2

-- the file is of another program, and the line names what tells so
pub record IsOtherProgram (file name : List ℕ) (outcome : Outcome) : Type 0 where
  pub stream : HasMainStream file
  pub ends : outcome ≡ says 15 (not_word_line name (u16_at stream.wd 0) (u16_at stream.wd 2))

-- how a run ends whose file breaks this rule first: 17 and 18 tell another program, and 19 an encrypted file
pub record IsAnotherRule (rule : ℕ) : Type 0 where
  pub not_ident : rule ≢ 17
  pub not_version : rule ≢ 18
  pub not_encrypted : rule ≢ 19

abbrev pub EndsAt : (file name : List ℕ) → ℕ → Place → Outcome → Type 0
EndsAt file name rule place outcome =
    (((rule ≡ 17) ⊎ (rule ≡ 18)) × IsOtherProgram file name outcome)
    ⊎ (((rule ≡ 19) × (outcome ≡ says 16 (encrypted_line name)))
    ⊎ (IsAnotherRule rule × (outcome ≡ says 1 (rule_line name rule place))))

-- its status
abbrev pub IsRefusalStatus : (rule status : ℕ) → Type 0
IsRefusalStatus rule status =
    (((rule ≡ 17) ⊎ (rule ≡ 18)) × (status ≡ 15))
    ⊎ (((rule ≡ 19) × (status ≡ 16)) ⊎ (IsAnotherRule rule × (status ≡ 1)))

-- the first of the rules that are left
pub record IsFitRefused (file name : List ℕ) (outcome : Outcome) : Type 0 where
  pub rule : ℕ
  pub place : Place
  pub first : IsFirstPlace (fit_rules file) rule place
  pub ends : EndsAt file name rule place outcome
