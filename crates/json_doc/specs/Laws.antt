-- Laws on documents as JSON.
use Rattle.std.specs.Prelude.{◌≡◌, ◌≤◌, false}
use Rattle.serde_json.specs.Data.{depth}
use Rattle.serde_json.specs.Written.{has_float}
use Rattle.edit_script.specs.Json.{IsJson}
use Rattle.doc_model.specs.declared.document.Document.{Document}
use Rattle.doc_model.specs.Formed.{IsFormed}
use Rattle.plain_doc.specs.Sound.{IsSound}
use Rattle.json_doc.specs.declared.fault.JsonFault.{JsonFault}
use Rattle.json_doc.specs.declared.fault.JsonFault.TheVariants.{Memory}
use Rattle.json_doc.specs.Documents.{json_value, json_text}
use Rattle.json_doc.specs.Reading.{IsSoundJson, IsJsonFault}

-- no two well-formed documents have the same value, and none have the same text
pub record JsonFormsAreOne : Type 0 where
  pub values : (one other : Document) → IsFormed one → IsFormed other → json_value one ≡ json_value other → one ≡ other
  pub texts : (one other : Document) → IsFormed one → IsFormed other → json_text one ≡ json_text other → one ≡ other

-- the text of a well-formed document is read as its value
abbrev pub JsonTextsAreRead : Type 0
JsonTextsAreRead = (document : Document) → IsFormed document → IsJson (json_text document) (json_value document)

-- the value of a well-formed document is at most six deep, and has no float
pub record JsonIsShallow : Type 0 where
  pub deep : (document : Document) → IsFormed document → depth (json_value document) ≤ 6
  pub whole : (document : Document) → IsFormed document → has_float (json_value document) ≡ false

-- the text of a sound document is read as the document, or memory is refused
pub record JsonIsReadBack : Type 0 where
  pub read : (document other : Document) → IsFormed document → IsSoundJson (json_text document) other → other ≡ document
  pub refused : (document : Document) (fault : JsonFault) → IsFormed document → IsSound document →
      IsJsonFault (json_text document) fault → fault ≡ Memory
