-- The import of bytes has one reply, and is served where they spell a sound document that fits a file.
use Rattle.std.proofs.Common.{◌≡◌, ◌∙◌, inl, inr, ap, sym, subst, ℕ, List}
use Rattle.std.specs.Prelude.{codes}
use Rattle.edit_script.specs.Json.{IsJson}
use Rattle.doc_bits.specs.declared.places.Where.{Where}
use Rattle.doc_bits.specs.Places.{Upto, IsFirstPlace}
use Rattle.doc_bits.proofs.Public.{place_one, hold_or_first, first_agrees}
use Rattle.doc_model.specs.declared.document.Document.{Document}
use Rattle.plain_doc.specs.Sound.{document_rules}
use Rattle.plain_doc.proofs.Public.{document_rules-IsSingle}
use Rattle.json_doc.specs.declared.fault.JsonFault.TheVariants as fault
use Rattle.json_doc.specs.Documents.{json_value}
use Rattle.json_doc.specs.Reading.{IsWholeDocument, IsSoundJson, IsJsonFault}
use Rattle.json_doc.proofs.Public.{values_same, json_one}
use Rattle.document_commands.specs.declared.reply.Reply.{Reply}
use Rattle.document_commands.specs.declared.reply.Reply.TheVariants.{Refused}
use Rattle.document_commands.specs.declared.reply.Refusal.TheVariants.{Json, Unsound}
use Rattle.document_commands.specs.Imports.{not_json_line, wrong_shape_line, SavesRead, IsNoJson, HasNoShape}
use Rattle.document_commands.specs.Imports.{BreaksRuleRead}
use Rattle.document_commands.specs.Imports.{Imports, CanImport}
use Rattle.run_stages.specs.Lines.{rule_line}
use Rattle.document_commands.specs.Replies.{IsNoRefusal}
use Rattle.document_commands.specs.Saves.{Saves}
use Rattle.document_commands.proofs.SaveLemmas.{saved_one, saved_done}

-- ---- the replies of faults

pub no_json_said : (bytes : List ℕ) (reply : Reply) → IsJsonFault bytes fault.Json →
    reply ≡ Refused Json not_json_line → Imports bytes reply
no_json_said bytes reply is said = inr (inl (record { none = is; is = said }))

pub no_shape_said : (bytes : List ℕ) (reply : Reply) → IsJsonFault bytes fault.Shape →
    reply ≡ Refused Json wrong_shape_line → Imports bytes reply
no_shape_said bytes reply is said = inr (inr (inl (record { wrong = is; is = said })))

pub unsound_said : (bytes : List ℕ) (rule : ℕ) (part : Where) (at : ℕ) (reply : Reply) →
    IsJsonFault bytes (fault.Unsound rule part at) →
    reply ≡ Refused Unsound (rule_line (codes "import") rule (part, at)) → Imports bytes reply
unsound_said bytes rule part at reply is said =
    inr (inr (inr (record {
      document = is.document;
      whole = is.whole;
      json = is.json;
      rule = rule;
      place = (part, at);
      names = is.first;
      is = said;
    })))

-- ---- one document

whole_of : (bytes : List ℕ) (document : Document) → IsSoundJson bytes document → IsWholeDocument document
whole_of bytes document read = record { parts = read.formed; bookmarks = read.sound.bookmarks }

-- a document that the bytes spell is the only one
same_document : (bytes : List ℕ) (one other : Document) → IsWholeDocument one → IsWholeDocument other →
    IsJson bytes (json_value one) → IsJson bytes (json_value other) → one ≡ other
same_document bytes one other a b x y =
    values_same one other a.parts b.parts (json_one bytes (json_value one) (json_value other) x y)

-- ---- the cases exclude one another

read_or_none : (bytes : List ℕ) (a b : Reply) → SavesRead bytes a → IsNoJson bytes b → ⊥
read_or_none bytes a b x y = y.none (json_value x.document) x.read.json

read_or_shape : (bytes : List ℕ) (a b : Reply) → SavesRead bytes a → HasNoShape bytes b → ⊥
read_or_shape bytes a b x y =
    y.wrong.none x.document (whole_of bytes x.document x.read) (json_one bytes y.wrong.value (json_value x.document)
    y.wrong.json x.read.json)

read_or_rule : (bytes : List ℕ) (a b : Reply) → SavesRead bytes a → BreaksRuleRead bytes b → ⊥
read_or_rule bytes a b x y =
    let whole = whole_of bytes x.document x.read in
    let same = same_document bytes y.document x.document y.whole whole y.json x.read.json in
    hold_or_first Upto (document_rules x.document) y.rule y.place (document_rules-IsSingle x.document)
    x.read.sound.rules (subst (λ d. IsFirstPlace (document_rules d) y.rule y.place) same y.names)

none_or_shape : (bytes : List ℕ) (a b : Reply) → IsNoJson bytes a → HasNoShape bytes b → ⊥
none_or_shape bytes a b x y = x.none y.wrong.value y.wrong.json

none_or_rule : (bytes : List ℕ) (a b : Reply) → IsNoJson bytes a → BreaksRuleRead bytes b → ⊥
none_or_rule bytes a b x y = x.none (json_value y.document) y.json

shape_or_rule : (bytes : List ℕ) (a b : Reply) → HasNoShape bytes a → BreaksRuleRead bytes b → ⊥
shape_or_rule bytes a b x y =
    x.wrong.none y.document y.whole (json_one bytes x.wrong.value (json_value y.document) x.wrong.json y.json)

read_one : (bytes : List ℕ) (a b : Reply) → SavesRead bytes a → SavesRead bytes b → a ≡ b
read_one bytes a b x y =
    let same = same_document bytes x.document y.document (whole_of bytes x.document x.read) (whole_of bytes y.document
    y.read) x.read.json y.read.json in
    saved_one (codes "import") y.document a b (subst (λ d. Saves (codes "import") d a) same x.saves) y.saves

rule_one : (bytes : List ℕ) (a b : Reply) → BreaksRuleRead bytes a → BreaksRuleRead bytes b → a ≡ b
rule_one bytes a b x y =
    let same = same_document bytes x.document y.document x.whole y.whole x.json y.json in
    let names = subst (λ d. IsFirstPlace (document_rules d) x.rule x.place) same x.names in
    let rules = document_rules y.document in
    let single = document_rules-IsSingle y.document in
    let xy = first_agrees Upto rules x.rule y.rule x.place y.place single names y.names in
    let yx = first_agrees Upto rules y.rule x.rule y.place x.place single y.names names in
    let places = place_one x.place y.place xy.1 yx.1 in
    x.is
    ∙ ap (λ r. Refused Unsound (rule_line (codes "import") r x.place)) xy.0
    ∙ ap (λ p. Refused Unsound (rule_line (codes "import") y.rule p)) places
    ∙ sym y.is

pub import_one : (bytes : List ℕ) (a b : Reply) → Imports bytes a → Imports bytes b → a ≡ b
import_one bytes a b (inl x) (inl y) = read_one bytes a b x y
import_one bytes a b (inl x) (inr (inl y)) = absurd (read_or_none bytes a b x y)
import_one bytes a b (inl x) (inr (inr (inl y))) = absurd (read_or_shape bytes a b x y)
import_one bytes a b (inl x) (inr (inr (inr y))) = absurd (read_or_rule bytes a b x y)
import_one bytes a b (inr (inl x)) (inl y) = absurd (read_or_none bytes b a y x)
import_one bytes a b (inr (inl x)) (inr (inl y)) = x.is ∙ sym y.is
import_one bytes a b (inr (inl x)) (inr (inr (inl y))) = absurd (none_or_shape bytes a b x y)
import_one bytes a b (inr (inl x)) (inr (inr (inr y))) = absurd (none_or_rule bytes a b x y)
import_one bytes a b (inr (inr (inl x))) (inl y) = absurd (read_or_shape bytes b a y x)
import_one bytes a b (inr (inr (inl x))) (inr (inl y)) = absurd (none_or_shape bytes b a y x)
import_one bytes a b (inr (inr (inl x))) (inr (inr (inl y))) = x.is ∙ sym y.is
import_one bytes a b (inr (inr (inl x))) (inr (inr (inr y))) = absurd (shape_or_rule bytes a b x y)
import_one bytes a b (inr (inr (inr x))) (inl y) = absurd (read_or_rule bytes b a y x)
import_one bytes a b (inr (inr (inr x))) (inr (inl y)) = absurd (none_or_rule bytes b a y x)
import_one bytes a b (inr (inr (inr x))) (inr (inr (inl y))) = absurd (shape_or_rule bytes b a y x)
import_one bytes a b (inr (inr (inr x))) (inr (inr (inr y))) = rule_one bytes a b x y

-- ---- it is served where it can be

saves_again : (bytes : List ℕ) (reply : Reply) (can : CanImport bytes) → SavesRead bytes reply →
    Saves (codes "import") can.document reply
saves_again bytes reply can x =
    let own = whole_of bytes x.document x.read in
    let other = whole_of bytes can.document can.read in
    let same = same_document bytes x.document can.document own other x.read.json can.read.json in
    subst (λ d. Saves (codes "import") d reply) same x.saves

pub import_done : (bytes : List ℕ) (reply : Reply) → CanImport bytes → Imports bytes reply → IsNoRefusal reply
import_done bytes reply can (inl x) =
    saved_done (codes "import") can.document reply can.room (saves_again bytes reply can x)
import_done bytes reply can (inr (inl x)) = absurd (x.none (json_value can.document) can.read.json)
import_done bytes reply can (inr (inr (inl x))) =
    absurd (x.wrong.none can.document (whole_of bytes can.document can.read) (json_one bytes x.wrong.value (json_value
    can.document) x.wrong.json can.read.json))
import_done bytes reply can (inr (inr (inr x))) =
    let same = same_document bytes x.document can.document x.whole (whole_of bytes can.document can.read) x.json
    can.read.json in
    absurd (hold_or_first Upto (document_rules can.document) x.rule x.place (document_rules-IsSingle can.document)
    can.read.sound.rules (subst (λ d. IsFirstPlace (document_rules d) x.rule x.place) same x.names))
