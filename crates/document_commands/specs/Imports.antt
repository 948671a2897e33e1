-- What the import of bytes comes to.
use Rattle.std.specs.Prelude.{◌≡◌, ◌⊎◌, ℕ, List, codes}
use Rattle.serde_json.specs.Data.{Data}
use Rattle.edit_script.specs.Json.{IsJson}
use Rattle.doc_bits.specs.Places.{Place, IsFirstPlace}
use Rattle.doc_model.specs.declared.document.Document.{Document}
use Rattle.plain_doc.specs.Sound.{document_rules}
use Rattle.full_save.specs.Layout.{FitsCompoundFile}
use Rattle.text_codes.specs.Shown.{line}
use Rattle.json_doc.specs.Documents.{json_value}
use Rattle.json_doc.specs.Reading.{IsWholeDocument, IsSoundJson, HasWrongShape}
use Rattle.document_commands.specs.declared.reply.Reply.{Reply}
use Rattle.document_commands.specs.declared.reply.Reply.TheVariants.{Refused}
use Rattle.document_commands.specs.declared.reply.Refusal.TheVariants.{Json, Unsound}
use Rattle.run_stages.specs.Lines.{rule_line}
use Rattle.document_commands.specs.Saves.{Saves}

abbrev pub not_json_line : List ℕ
not_json_line = line (codes "import: not JSON")

abbrev pub wrong_shape_line : List ℕ
wrong_shape_line = line (codes "import: wrong shape")

-- more bytes than are read of a file
abbrev pub overlong_json_line : List ℕ
overlong_json_line = line (codes "import: too long")

-- the bytes spell the value of a sound document, which is saved in full
pub record SavesRead (bytes : List ℕ) (reply : Reply) : Type 0 where
  pub document : Document
  pub read : IsSoundJson bytes document
  pub saves : Saves (codes "import") document reply

-- they are no JSON
pub record IsNoJson (bytes : List ℕ) (reply : Reply) : Type 0 where
  pub none : (value : Data) → ¬ (IsJson bytes value)
  pub is : reply ≡ Refused Json not_json_line

-- they are JSON, and no well-formed document has their value
pub record HasNoShape (bytes : List ℕ) (reply : Reply) : Type 0 where
  pub wrong : HasWrongShape bytes
  pub is : reply ≡ Refused Json wrong_shape_line

-- they spell the value of a well-formed document, which breaks a rule: the line names the first one at its least place
pub record BreaksRuleRead (bytes : List ℕ) (reply : Reply) : Type 0 where
  pub document : Document
  pub whole : IsWholeDocument document
  pub json : IsJson bytes (json_value document)
  pub rule : ℕ
  pub place : Place
  pub names : IsFirstPlace (document_rules document) rule place
  pub is : reply ≡ Refused Unsound (rule_line (codes "import") rule place)

abbrev pub Imports : List ℕ → Reply → Type 0
Imports bytes reply =
    SavesRead bytes reply ⊎ (IsNoJson bytes reply ⊎ (HasNoShape bytes reply ⊎ BreaksRuleRead bytes reply))

-- the bytes spell the value of a sound document that fits a file
pub record CanImport (bytes : List ℕ) : Type 0 where
  pub document : Document
  pub read : IsSoundJson bytes document
  pub room : FitsCompoundFile document
