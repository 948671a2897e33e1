-- Where one of the six values is not read, no document has them.
use Rattle.std.proofs.Common.{◌≡◌, ◌≢◌, Err, ap}
use Rattle.serde_json.specs.Data.{Data}
use Rattle.edit_script.specs.declared.faults.ShapeError.{ShapeError}
use Rattle.edit_script.specs.declared.faults.ShapeError.TheVariants.{Shape, Memory}
use Rattle.doc_model.specs.Document.{IsFormedText, AreFormedTexts}
use Rattle.doc_model.specs.Formed.{IsFormedCarried}
use Rattle.style_sheet.specs.Formed.{IsFormedSheet}
use Rattle.json_doc.specs.CarriedParts.{carried_json}
use Rattle.json_doc.specs.DocumentReading.{SixValues}
use Rattle.json_doc.specs.DocumentTexts.{HasNoTexts}
use Rattle.json_doc.specs.Pieces.{text_json, texts_json}
use Rattle.json_doc.specs.ReadValues.{ReadsValue, Tells}
use Rattle.json_doc.specs.Styles.{sheet_json}
use Rattle.json_doc.proofs.DocumentLemmas.{six_same, none_reads}

none_tells : {A : Type 0} (json : A → Data) (Is : A → Type 0) (value : Data) (e : ShapeError) → e ≡ Shape →
    Tells json Is value (Err e) → (x : A) → Is x → value ≢ json x
none_tells json Is value Shape shape none = none
none_tells json Is value Memory shape none = absurd (cc (shape))

pub no_main : (six : SixValues) (e : ShapeError) → e ≡ Shape → ReadsValue text_json IsFormedText six.main (Err e) →
    HasNoTexts six
no_main six e shape none value read d whole same =
    none_reads text_json IsFormedText six.main e shape none d.main whole.parts.main
    (ap (λ (s : SixValues). s.main) (six_same value six d read same))

pub no_notes : (six : SixValues) (e : ShapeError) → e ≡ Shape → ReadsValue texts_json AreFormedTexts six.notes (Err e) →
    HasNoTexts six
no_notes six e shape none value read d whole same =
    none_reads texts_json AreFormedTexts six.notes e shape none d.notes whole.parts.notes
    (ap (λ (s : SixValues). s.notes) (six_same value six d read same))

pub no_heads : (six : SixValues) (e : ShapeError) → e ≡ Shape → ReadsValue texts_json AreFormedTexts six.heads (Err e) →
    HasNoTexts six
no_heads six e shape none value read d whole same =
    none_reads texts_json AreFormedTexts six.heads e shape none d.heads whole.parts.heads
    (ap (λ (s : SixValues). s.heads) (six_same value six d read same))

pub no_sheet : (six : SixValues) (e : ShapeError) → e ≡ Shape → Tells sheet_json IsFormedSheet six.sheet (Err e) →
    HasNoTexts six
no_sheet six e shape none value read d whole same =
    none_tells sheet_json IsFormedSheet six.sheet e shape none d.sheet whole.parts.sheet
    (ap (λ (s : SixValues). s.sheet) (six_same value six d read same))

pub no_carried : (six : SixValues) (e : ShapeError) → e ≡ Shape → Tells carried_json IsFormedCarried six.carried (Err e)
    →
    HasNoTexts six
no_carried six e shape none value read d whole same =
    none_tells carried_json IsFormedCarried six.carried e shape none d.carried whole.parts.carried
    (ap (λ (s : SixValues). s.carried) (six_same value six d read same))
