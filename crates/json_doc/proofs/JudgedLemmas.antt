-- What comes of a document that was read.
use Rattle.std.proofs.Common.{◌≡◌, ℕ, List, sym, subst}
use Rattle.std.specs.Prelude.{MatchResult, Result, Ok, Err, IsOk}
use Rattle.serde_json.specs.Data.{Data}
use Rattle.edit_script.specs.Json.{IsJson}
use Rattle.doc_model.specs.declared.document.Document.{Document}
use Rattle.doc_model.specs.Formed.{IsFormed}
use Rattle.doc_model.specs.Marks.{HasFormedBookmarks}
use Rattle.plain_doc.specs.Sound.{IsSound}
use Rattle.json_values.specs.Plain.{HasKeysInOrder}
use Rattle.json_values.proofs.Public.{keys_ascend}
use Rattle.json_doc.specs.declared.fault.JsonFault.{JsonFault}
use Rattle.json_doc.specs.declared.fault.JsonFault.TheVariants.{Json, Shape, Unsound, Memory}
use Rattle.json_doc.specs.Documents.{json_value}
use Rattle.json_doc.specs.Reading.{IsSoundJson, IsJsonFault, IsFirstFault}

-- what is checked
pub judged_told : (d : Document) (verdict : Result (Unit {0}) JsonFault) (r : Result Document JsonFault) →
    MatchResult verdict (λ _. IsSound d) (IsFirstFault d) →
    MatchResult r (λ given. (given ≡ d) × IsOk verdict) (λ fault. verdict ≡ Err fault) →
    MatchResult r (λ sound. (sound ≡ d) × IsSound d) (IsFirstFault d)
judged_told d (Ok done) (Ok given) judged is = (is.0, judged)
judged_told d (Err fault) (Ok given) judged is = absurd (cc is.1)
judged_told d verdict (Err fault) judged is =
    subst (λ (v : Result (Unit {0}) JsonFault). MatchResult v (λ _. IsSound d) (IsFirstFault d)) is judged

pub read_told : (bytes : List ℕ) (value : Data) (d : Document) (r : Result Document JsonFault) → IsJson bytes value →
    HasFormedBookmarks d → (HasKeysInOrder value → value ≡ json_value d) → IsFormed d →
    MatchResult r (λ sound. (sound ≡ d) × IsSound d) (IsFirstFault d) →
    MatchResult r (IsSoundJson bytes) (IsJsonFault bytes)
read_told bytes value d (Ok sound) json marks told formed m =
    let is = told (keys_ascend bytes value json.1) in
    subst (IsSoundJson bytes) (sym m.0) (record {
      formed = formed;
      sound = m.1;
      json = subst (IsJson bytes) is json;
    })
read_told bytes value d (Err Json) json marks told formed m = absurd m
read_told bytes value d (Err Shape) json marks told formed m = absurd m
read_told bytes value d (Err (Unsound rule place at)) json marks told formed m =
    let is = told (keys_ascend bytes value json.1) in
    record {
      document = d;
      whole = record { parts = formed; bookmarks = marks };
      json = subst (IsJson bytes) is json;
      first = m;
    }
read_told bytes value d (Err Memory) json marks told formed m = tt
