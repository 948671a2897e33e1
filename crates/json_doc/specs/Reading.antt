-- What bytes are read as, and why they are not. No second form is named here: a document is read where its own value is
-- that of the bytes.
use Rattle.std.specs.Prelude.{◌≡◌, ◌≢◌, ◌≤◌, ⊤, ℕ, List, length}
use Rattle.serde_json.specs.Data.{Data}
use Rattle.edit_script.specs.Json.{IsJson}
use Rattle.doc_model.specs.declared.document.Document.{Document}
use Rattle.plain_doc.specs.declared.judge.DocFault.{DocFault}
use Rattle.doc_model.specs.Formed.{IsFormed}
use Rattle.doc_model.specs.Marks.{HasFormedBookmarks}
use Rattle.plain_doc.specs.Sound.{IsSound, NamesFirstRule, document_rules}
use Rattle.json_values.specs.Out.{Output}
use Rattle.json_doc.specs.declared.fault.JsonFault.{JsonFault}
use Rattle.json_doc.specs.declared.fault.JsonFault.TheVariants.{Json, Shape, Unsound, Memory}
use Rattle.json_doc.specs.Documents.{json_value}

-- a well-formed document, whose bookmarks are so too
pub record IsWholeDocument (document : Document) : Type 0 where
  pub parts : IsFormed document
  pub bookmarks : HasFormedBookmarks document

-- the bytes spell the value of a sound document
pub record IsSoundJson (bytes : List ℕ) (document : Document) : Type 0 where
  pub formed : IsFormed document
  pub sound : IsSound document
  pub json : IsJson bytes (json_value document)

-- the bytes are JSON, and no well-formed document has their value
pub record HasWrongShape (bytes : List ℕ) : Type 0 where
  pub value : Data
  pub json : IsJson bytes value
  pub none : (document : Document) → IsWholeDocument document → value ≢ json_value document

-- the bytes spell the value of a well-formed document, and this names the first rule that it breaks
pub record IsUnsoundJson (bytes : List ℕ) (fault : DocFault) : Type 0 where
  pub document : Document
  pub whole : IsWholeDocument document
  pub json : IsJson bytes (json_value document)
  pub first : NamesFirstRule (document_rules document) fault

-- why bytes are not read as a document; want of memory is free
abbrev pub IsJsonFault : List ℕ → JsonFault → Type 0
IsJsonFault bytes Json = (value : Data) → ¬ (IsJson bytes value)
IsJsonFault bytes Shape = HasWrongShape bytes
IsJsonFault bytes (Unsound rule place at) = IsUnsoundJson bytes (record { rule = rule; place = place; at = at })
IsJsonFault bytes Memory = ⊤

-- the fault is the first rule that the document breaks; want of memory is free
abbrev pub IsFirstFault : Document → JsonFault → Type 0
IsFirstFault document Json = ⊥
IsFirstFault document Shape = ⊥
IsFirstFault document (Unsound rule place at) =
    NamesFirstRule (document_rules document) (record { rule = rule; place = place; at = at })
IsFirstFault document Memory = ⊤

-- this text is counted, and it is what is kept where it has at most so many bytes
pub record IsOutput (most : ℕ) (text : List ℕ) (out : Output) : Type 0 where
  pub most_is : out.most ≡ most
  pub counted : out.len ≡ length text
  pub kept : length text ≤ most → out.text ≡ text
