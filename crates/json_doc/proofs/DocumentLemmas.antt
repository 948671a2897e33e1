-- A document is read from its six values, and has no other.
use Rattle.std.proofs.Common.{◌≡◌, ◌≢◌, ℕ, zero, suc, List, [], ◌∷◌, Option, Some, None}
use Rattle.std.proofs.Common.{length, map, drop, get_or, refl, sym, ap, ◌∙◌, subst, arith, All, is_some}
use Rattle.std.specs.Prelude.{codes, Err}
use Rattle.std.proofs.Props.{props}
use Rattle.std.proofs.lemmas.Option.{none-some, same_Some}
use Rattle.serde_json.specs.Data.{Data, null, object, no_members, member}
use Rattle.serde_json.specs.Find.{as_object, as_null}
use Rattle.serde_json.specs.Read.{read}
use Rattle.edit_script.specs.declared.faults.ShapeError.{ShapeError}
use Rattle.edit_script.specs.declared.faults.ShapeError.TheVariants.{Shape, Memory}
use Rattle.fib_form.specs.FibFields.{IsKeptFlags}
use Rattle.cfb_streams.specs.Contents.{NamedBytes, IsStored}
use Rattle.style_sheet.specs.declared.styles.Style.{Style}
use Rattle.style_sheet.specs.Sheet.{Sheet}
use Rattle.style_sheet.specs.Formed.{IsFormedSlot, IsFormedSheet}
use Rattle.doc_model.specs.declared.item.Item.{Item}
use Rattle.doc_model.specs.declared.carried.Carried.{Carried}
use Rattle.doc_model.specs.declared.document.Document.{Document}
use Rattle.doc_model.specs.Carried.{ArePartsShort, AreListsWithLevels, AreCarriedStreams}
use Rattle.doc_model.specs.Document.{IsFormedText, AreFormedTexts}
use Rattle.doc_model.specs.Formed.{IsFormed, IsFormedCarried}
use Rattle.json_values.specs.Plain.{HasKeysInOrder}
use Rattle.json_doc.specs.CarriedParts.{stream_json, streams_json, carried_json}
use Rattle.json_doc.specs.declared.carried_reading.CarriedFields.{CarriedFields}
use Rattle.json_doc.specs.CarriedReading.{carried_values}
use Rattle.json_doc.specs.StyleReading.{sheet_values}
use Rattle.document_bookmarks.specs.Bookmarks.{AreFormedBookmarks}
use Rattle.json_doc.specs.DocumentReading.{AreMarks, SixValues, document_values}
use Rattle.json_doc.specs.Documents.{bookmarks_json, json_value}
use Rattle.json_doc.specs.Pieces.{text_json, texts_json}
use Rattle.json_doc.specs.ReadValues.{ReadsValue}
use Rattle.json_doc.specs.Reading.{IsWholeDocument}
use Rattle.json_doc.specs.Styles.{slot_json, slots_json, sheet_json}
use Rattle.json_doc.proofs.CarriedLemmas.{fields_of, carried_known, streams_are_one, stored_all}
use Rattle.json_doc.proofs.CutTextLemmas.{texts_same}
use Rattle.json_doc.proofs.GoodLemmas.{plain_order}
use Rattle.json_doc.proofs.GoodParts.{good_text}
use Rattle.json_doc.proofs.MarkLemmas.{bookmarks_one}
use Rattle.json_doc.proofs.ReadLemmas.{same_items}
use Rattle.json_doc.proofs.RowLemmas.{AreOne, taken_is, ended_is}
use Rattle.json_doc.proofs.SheetLemmas.{sheet_known}
use Rattle.json_doc.proofs.StyleReadLemmas.{styles_one, style_spelt}
use Rattle.json_values.specs.Rows.{taken, no_member_left}
use Rattle.json_values.proofs.Public.{object_is, step_found}

-- ---- the six values

abbrev pub six_of : Document → SixValues
six_of d = record {
  bookmarks = bookmarks_json d.bookmarks;
  carried = carried_json d.carried;
  heads = texts_json d.heads;
  main = text_json d.main;
  notes = texts_json d.notes;
  sheet = sheet_json d.sheet;
}

six_known : (d : Document) → document_values (json_value d) ≡ Some (six_of d)
six_known d = refl

pub six_same : (value : Data) (six : SixValues) (d : Document) → document_values value ≡ Some six →
    value ≡ json_value d → six ≡ six_of d
six_same value six d read e = same_Some six (six_of d) (sym read ∙ ap document_values e ∙ six_known d)

pub no_document : (value : Data) → document_values value ≡ None → (d : Document) → value ≢ json_value d
no_document value none d e = none-some _ (sym none ∙ ap document_values e ∙ six_known d)

abbrev six_made : SixValues → Data
six_made six =
    object (member (codes "bookmarks") six.bookmarks
    (member (codes "carried") six.carried
    (member (codes "heads") six.heads
    (member (codes "main") six.main
    (member (codes "notes") six.notes
    (member (codes "sheet") six.sheet no_members))))))

six_is : (value : Data) (six : SixValues) → document_values value ≡ Some six → value ≡ six_made six
six_is value six e =
    let start = step_found (as_object value) _ six e in
    let is = object_is value start.0 start.1 in
    let a = step_found (taken (codes "bookmarks") start.0) _ six start.2 in
    let one = taken_is (codes "bookmarks") start.0 a.0.0 a.0.1 a.1 in
    let b = step_found (taken (codes "carried") a.0.1) _ six a.2 in
    let two = taken_is (codes "carried") a.0.1 b.0.0 b.0.1 b.1 in
    let c = step_found (taken (codes "heads") b.0.1) _ six b.2 in
    let three = taken_is (codes "heads") b.0.1 c.0.0 c.0.1 c.1 in
    let d = step_found (taken (codes "main") c.0.1) _ six c.2 in
    let four = taken_is (codes "main") c.0.1 d.0.0 d.0.1 d.1 in
    let f = step_found (taken (codes "notes") d.0.1) _ six d.2 in
    let five = taken_is (codes "notes") d.0.1 f.0.0 f.0.1 f.1 in
    let g = step_found (taken (codes "sheet") f.0.1) _ six f.2 in
    let last = taken_is (codes "sheet") f.0.1 g.0.0 g.0.1 g.1 in
    let h = step_found (no_member_left g.0.1) _ six g.2 in
    let end = ended_is g.0.1 h.0 h.1 in
    let found : SixValues = record {
      bookmarks = a.0.0;
      carried = b.0.0;
      heads = c.0.0;
      main = d.0.0;
      notes = f.0.0;
      sheet = g.0.0;
    } in
    let made : found ≡ six = same_Some found six h.2 in
    is ∙ ap object (one ∙ ap (member (codes "bookmarks") a.0.0)
    (two ∙ ap (member (codes "carried") b.0.0)
    (three ∙ ap (member (codes "heads") c.0.0)
    (four ∙ ap (member (codes "main") d.0.0)
    (five ∙ ap (member (codes "notes") f.0.0)
    (last ∙ ap (member (codes "sheet") g.0.0) end))))))
    ∙ ap six_made made

-- the six are those of a document
pub record AreSixOf (six : SixValues) (d : Document) : Type 0 where
  pub bookmarks : HasKeysInOrder six.bookmarks → six.bookmarks ≡ bookmarks_json d.bookmarks
  pub carried : HasKeysInOrder six.carried → six.carried ≡ carried_json d.carried
  pub heads : HasKeysInOrder six.heads → six.heads ≡ texts_json d.heads
  pub main : HasKeysInOrder six.main → six.main ≡ text_json d.main
  pub notes : HasKeysInOrder six.notes → six.notes ≡ texts_json d.notes
  pub sheet : HasKeysInOrder six.sheet → six.sheet ≡ sheet_json d.sheet

pub document_told : (value : Data) (six : SixValues) (d : Document) → document_values value ≡ Some six →
    AreSixOf six d → HasKeysInOrder value → value ≡ json_value d
document_told value six d read are order =
    let is = six_is value six read in
    let o = (subst HasKeysInOrder is order).0 in
    let bookmarks = are.bookmarks o.0 in
    let carried = are.carried o.1.0 in
    let heads = are.heads o.1.1.0 in
    let main = are.main o.1.1.1.0 in
    let notes = are.notes o.1.1.1.1.0 in
    let sheet = are.sheet o.1.1.1.1.1.0 in
    is ∙ (λ t. object (member (codes "bookmarks") (bookmarks t)
    (member (codes "carried") (carried t)
    (member (codes "heads") (heads t)
    (member (codes "main") (main t)
    (member (codes "notes") (notes t)
    (member (codes "sheet") (sheet t) no_members)))))))

-- ---- bookmarks beside the main text that was read

-- what a misfit of a wrong shape says
pub none_reads : {A : Type 0} (json : A → Data) (Is : A → Type 0) (value : Data) (e : ShapeError) → e ≡ Shape →
    ReadsValue json Is value (Err e) → (x : A) → Is x → value ≢ json x
none_reads json Is value Shape shape none = none
none_reads json Is value Memory shape none = absurd (cc (shape))

pub main_same : (value : Data) (main : List Item) (d : Document) → IsFormed d → value ≡ text_json d.main →
    IsFormedText main → (HasKeysInOrder value → value ≡ text_json main) → main ≡ d.main
main_same value main d formed e text read =
    let order : HasKeysInOrder value = subst HasKeysInOrder (sym e) (plain_order (text_json d.main) (good_text d.main
    formed.main).plain) in
    texts_same main d.main text formed.main (sym (read order) ∙ e)

pub marks_unread : (value : Data) (six : SixValues) (main : List Item) (len : ℕ) (e : ShapeError) →
    document_values value ≡ Some six → IsFormedText main → (HasKeysInOrder six.main → six.main ≡ text_json main) →
    len ≡ length main → e ≡ Shape → ReadsValue bookmarks_json (AreMarks len) six.bookmarks (Err e) →
    (d : Document) → IsWholeDocument d → value ≢ json_value d
marks_unread value six main len e read text told is shape none d whole same =
    let six_are = six_same value six d read same in
    let main_is = main_same six.main main d whole.parts (ap (λ (s : SixValues). s.main) six_are) text told in
    none_reads bookmarks_json (AreMarks len) six.bookmarks e shape none d.bookmarks (record {
      formed = subst (λ n. AreFormedBookmarks n d.bookmarks) (sym (is ∙ ap length main_is)) whole.bookmarks;
      numbers = whole.parts.bookmarks;
    }) (ap (λ (s : SixValues). s.bookmarks) six_are)

-- ---- documents with the same value

map_same : {A : Type 0} (json : A → Data) (Is : A → Type 0) →
    ((x y : A) → Is x → Is y → json x ≡ json y → x ≡ y) → (xs ys : List A) → All Is xs → All Is ys →
    map json xs ≡ map json ys → xs ≡ ys
map_same json Is same [] [] one other e = refl
map_same json Is same [] (y ∷ ys) one other e = absurd (let l = ap length e in omega (arith, l))
map_same json Is same (x ∷ xs) [] one other e = absurd (let l = ap length e in omega (arith, l))
map_same json Is same (x ∷ xs) (y ∷ ys) one other e =
    let first = same x y (one zero x (omega arith)) (other zero y (omega arith)) (ap (λ l. get_or l 0 null) e) in
    let rest = map_same json Is same xs ys (λ k d less. one (suc k) d (omega (arith, less)))
    (λ k d less. other (suc k) d (omega (arith, less))) (ap (drop 1) e) in
    λ i. first i ∷ rest i

by_law : {A : Type 0} {of : Data → Option A} {json : A → Data} {Is : A → Type 0} → AreOne of json Is → (x y : A) →
    Is x → Is y → json x ≡ json y → x ≡ y
by_law {of = of} laws x y one other e = same_Some x y (sym (laws.back x one) ∙ ap of e ∙ laws.back y other)

all_texts_same : (xs ys : List (List Item)) → AreFormedTexts xs → AreFormedTexts ys → texts_json xs ≡ texts_json ys →
    xs ≡ ys
all_texts_same xs ys one other e =
    map_same text_json IsFormedText texts_same xs ys one.each other.each (same_items (map text_json xs)
    (map text_json ys) e)

slot_same : (a b : Option Style) → IsFormedSlot a → IsFormedSlot b → slot_json a ≡ slot_json b → a ≡ b
slot_same None None one other e = refl
slot_same None (Some b) one other e = absurd (cc (ap (λ d. is_some (as_null d)) e))
slot_same (Some a) None one other e = absurd (cc (ap (λ d. is_some (as_null d)) e))
slot_same (Some a) (Some b) one other e =
    ap Some (by_law styles_one a b (style_spelt a one) (style_spelt b other) e)

sheet_same : (a b : Sheet) → IsFormedSheet a → IsFormedSheet b → sheet_json a ≡ sheet_json b → a ≡ b
sheet_same a b one other e =
    let parts = same_Some (a.head, slots_json a.styles) (b.head, slots_json b.styles)
    (sym (sheet_known (sheet_json a) a one refl) ∙ ap sheet_values e ∙ sheet_known (sheet_json b) b other refl) in
    let head = ap (λ (q : List ℕ × Data). q.0) parts in
    let styles = map_same slot_json IsFormedSlot slot_same a.styles b.styles one.styles other.styles (same_items
    (map slot_json a.styles) (map slot_json b.styles) (ap (λ (q : List ℕ × Data). q.1) parts)) in
    λ i. record { head = head i; styles = styles i }

-- what is carried is what it holds, and what it knows of that
record CarriedData : Type 0 where
  fields : CarriedFields
  streams : List NamedBytes

record CarriedFacts (d : CarriedData) : Type 0 where
  short :
      ArePartsShort
      (d.fields.fonts ∷ d.fields.dop ∷ d.fields.assoc ∷ d.fields.lst ∷ d.fields.levels ∷ d.fields.lfo ∷ [])
  lists : AreListsWithLevels d.fields.lst d.fields.levels
  kept : IsKeptFlags d.fields.flags
  others : AreCarriedStreams d.streams

facts_prop : (d : CarriedData) → IsProp (CarriedFacts d)
facts_prop d = hlevel props

abbrev carried_with : (d : CarriedData) → CarriedFacts d → Carried
carried_with d f = record {
  fonts = d.fields.fonts;
  dop = d.fields.dop;
  assoc = d.fields.assoc;
  lst = d.fields.lst;
  levels = d.fields.levels;
  lfo = d.fields.lfo;
  clsid = d.fields.clsid;
  lid = d.fields.lid;
  lid_fe = d.fields.lid_fe;
  flags = d.fields.flags;
  streams = d.streams;
  short = f.short;
  lists = f.lists;
  kept = f.kept;
  others = f.others;
}

abbrev data_of : Carried → CarriedData
data_of c = record { fields = fields_of c; streams = c.streams }

abbrev facts_of : (c : Carried) → CarriedFacts (data_of c)
facts_of c = record { short = c.short; lists = c.lists; kept = c.kept; others = c.others }

same_built : (d e : CarriedData) → d ≡ e → (p : CarriedFacts d) (q : CarriedFacts e) →
    carried_with d p ≡ carried_with e q
same_built d e same p =
    subst (λ x. (q : CarriedFacts x) → carried_with d p ≡ carried_with x q) same (λ q. ap (carried_with d)
    (facts_prop d p q))

carried_same : (a b : Carried) → IsFormedCarried a → IsFormedCarried b → carried_json a ≡ carried_json b → a ≡ b
carried_same a b one other e =
    let parts = same_Some (fields_of a, streams_json a.streams) (fields_of b, streams_json b.streams)
    (sym (carried_known (carried_json a) a one refl) ∙ ap carried_values e ∙ carried_known (carried_json b) b other
    refl) in
    let fields = ap (λ (q : CarriedFields × Data). q.0) parts in
    let streams = map_same stream_json (λ s. IsStored s.name s.bytes) (by_law streams_are_one) a.streams b.streams
    (stored_all a.streams one.stored) (stored_all b.streams other.stored) (same_items (map stream_json a.streams) (map
    stream_json b.streams) (ap (λ (q : CarriedFields × Data). q.1) parts)) in
    let same : data_of a ≡ data_of b = λ i. record { fields = fields i; streams = streams i } in
    same_built (data_of a) (data_of b) same (facts_of a) (facts_of b)

pub values_same : (a b : Document) → IsFormed a → IsFormed b → json_value a ≡ json_value b → a ≡ b
values_same a b one other e =
    let six = six_same (json_value a) (six_of a) b (six_known a) e in
    let main = texts_same a.main b.main one.main other.main (ap (λ (s : SixValues). s.main) six) in
    let notes = all_texts_same a.notes b.notes one.notes other.notes (ap (λ (s : SixValues). s.notes) six) in
    let heads = all_texts_same a.heads b.heads one.heads other.heads (ap (λ (s : SixValues). s.heads) six) in
    let sheet = sheet_same a.sheet b.sheet one.sheet other.sheet (ap (λ (s : SixValues). s.sheet) six) in
    let carried = carried_same a.carried b.carried one.carried other.carried (ap (λ (s : SixValues). s.carried) six) in
    let bookmarks = by_law bookmarks_one a.bookmarks b.bookmarks one.bookmarks other.bookmarks
    (ap (λ (s : SixValues). s.bookmarks) six) in
    λ i. record {
      main = main i;
      notes = notes i;
      heads = heads i;
      sheet = sheet i;
      carried = carried i;
      bookmarks = bookmarks i;
    }
