-- The laws on documents as JSON.
use Rattle.std.proofs.Common.{◌≡◌, ℕ, List, refl, sym, ◌∙◌, subst, arith}
use Rattle.std.proofs.lemmas.Option.{same_Some}
use Rattle.serde_json.specs.Data.{Data}
use Rattle.doc_bits.specs.Places.{Upto}
use Rattle.doc_bits.proofs.Public.{hold_or_first}
use Rattle.edit_script.specs.Json.{IsJson}
use Rattle.doc_model.specs.declared.document.Document.{Document}
use Rattle.doc_model.specs.Formed.{IsFormed}
use Rattle.plain_doc.specs.Sound.{IsSound, NamesFirstRule, document_rules}
use Rattle.plain_doc.proofs.Public.{document_rules-IsSingle}
use Rattle.json_values.proofs.Public.{plain_json}
use Rattle.json_doc.specs.declared.fault.JsonFault.{JsonFault}
use Rattle.json_doc.specs.declared.fault.JsonFault.TheVariants.{Json, Shape, Unsound, Memory}
use Rattle.json_doc.specs.Documents.{json_value, json_text}
use Rattle.json_doc.specs.Laws.{JsonFormsAreOne, JsonTextsAreRead, JsonIsShallow, JsonIsReadBack}
use Rattle.json_doc.specs.Reading.{IsJsonFault}
use Rattle.json_doc.proofs.DocumentLemmas.{values_same}
use Rattle.json_doc.proofs.GoodLemmas.{plain_whole}
use Rattle.json_doc.proofs.GoodParts.{good_document}

pub texts_read : JsonTextsAreRead
texts_read document formed =
    let good = good_document document formed in
    let shallow = good.shallow in
    plain_json (json_value document) good.plain good.texts (omega (arith, shallow))

pub is_shallow : JsonIsShallow
is_shallow = record {
  deep = λ document formed. (good_document document formed).shallow;
  whole = λ document formed. plain_whole (json_value document) (good_document document formed).plain;
}

-- bytes spell one value
pub json_one : (bytes : List ℕ) (one other : Data) → IsJson bytes one → IsJson bytes other → one ≡ other
json_one bytes one other a b = same_Some one other (sym a.1 ∙ b.1)

pub forms_one : JsonFormsAreOne
forms_one = record {
  values = values_same;
  texts = λ one other formed others e.
      values_same one other formed others (json_one (json_text other) (json_value one) (json_value other)
      (subst (λ text. IsJson text (json_value one)) e (texts_read one formed)) (texts_read other others));
}

refused_by : (document : Document) (fault : JsonFault) → IsFormed document → IsSound document →
    IsJsonFault (json_text document) fault → fault ≡ Memory
refused_by document Json formed sound is = absurd (is (json_value document) (texts_read document formed))
refused_by document Shape formed sound is =
    absurd (is.none document (record { parts = formed; bookmarks = sound.bookmarks }) (json_one (json_text document)
    is.value (json_value document) is.json (texts_read document formed)))
refused_by document (Unsound rule place at) formed sound is =
    let same = values_same is.document document is.whole.parts formed (json_one (json_text document) (json_value
    is.document) (json_value document) is.json (texts_read document formed)) in
    absurd (hold_or_first Upto (document_rules document) rule (place, at) (document_rules-IsSingle document) sound.rules
    (subst (λ d. NamesFirstRule (document_rules d) (record { rule = rule; place = place; at = at })) same is.first))
refused_by document Memory formed sound is = refl

pub read_back : JsonIsReadBack
read_back = record {
  read = λ document other formed is.
      values_same other document is.formed formed
      (json_one (json_text document) (json_value other) (json_value document)
      is.json (texts_read document formed));
  refused = refused_by;
}
