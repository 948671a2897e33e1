-- A sheet is read from its two parts.
use Rattle.std.proofs.Common.{◌≡◌, ◌≢◌, ℕ, List, Option, Some, None, length}
use Rattle.std.proofs.Common.{refl, sym, ap, ◌∙◌}
use Rattle.std.specs.Prelude.{MatchResult, Result, Ok, Err}
use Rattle.std.proofs.lemmas.Option.{none-some, same_Some}
use Rattle.serde_json.specs.Data.{Data}
use Rattle.edit_script.specs.declared.faults.ShapeError.{ShapeError}
use Rattle.edit_script.specs.declared.faults.ShapeError.TheVariants.{Shape, Memory}
use Rattle.style_sheet.specs.declared.styles.Style.{Style}
use Rattle.style_sheet.specs.Sheet.{Sheet}
use Rattle.style_sheet.specs.Formed.{IsFormedSheet}
use Rattle.json_doc.specs.ReadValues.{ReadsValue, Tells}
use Rattle.json_doc.specs.Styles.{sheet_json, slots_json}
use Rattle.json_doc.specs.StyleReading.{sheet_values, AreFormedSlots}
use Rattle.json_doc.proofs.StyleReadLemmas.{sheet_made, sheet_back, sheet_one}

-- the parts of a formed sheet
pub sheet_known : (value : Data) (sheet : Sheet) → IsFormedSheet sheet → value ≡ sheet_json sheet →
    sheet_values value ≡ Some (sheet.head, slots_json sheet.styles)
sheet_known value sheet formed e = ap sheet_values e ∙ sheet_back sheet.head (slots_json sheet.styles) formed.words

pub no_sheet : (value : Data) → sheet_values value ≡ None → (sheet : Sheet) → IsFormedSheet sheet →
    value ≢ sheet_json sheet
no_sheet value none sheet formed e = none-some _ (sym none ∙ sheet_known value sheet formed e)

pub other_len : (value : Data) (head : List ℕ) (slots : Data) → sheet_values value ≡ Some (head, slots) →
    (length head ≡ 7 → ⊥) → (sheet : Sheet) → IsFormedSheet sheet → value ≢ sheet_json sheet
other_len value head slots read other sheet formed e =
    let same = same_Some (sheet.head, slots_json sheet.styles) (head, slots) (sym (sheet_known value sheet formed e)
    ∙ read) in
    other (ap (λ q. length q.0) (sym same) ∙ formed.head)

pub formed_slots : (sheet : Sheet) → IsFormedSheet sheet → AreFormedSlots sheet.styles
formed_slots sheet formed = record { some = formed.some; few = formed.few; each = formed.styles }

-- what comes of the slots
pub sheet_told : (value : Data) (head seven : List ℕ) (slots : Data) (r : Result Sheet ShapeError) →
    sheet_values value ≡ Some (head, slots) → seven ≡ head →
    MatchResult r
    (λ sheet. (sheet.head ≡ seven) × ReadsValue slots_json AreFormedSlots slots (Ok sheet.styles))
    (λ fault. fault ≡ Shape → (xs : List (Option Style)) → AreFormedSlots xs → slots ≢ slots_json xs) →
    Tells sheet_json IsFormedSheet value r
sheet_told value head seven slots (Ok sheet) read same told = λ order.
    let made = sheet_one value head slots order read in
    made.is ∙ (λ t. sheet_made (sym (told.0 ∙ same) t) (told.1.1 made.order t))
sheet_told value head seven slots (Err Shape) read same told = λ sheet formed e.
    let is = same_Some (sheet.head, slots_json sheet.styles) (head, slots) (sym (sheet_known value sheet formed e)
    ∙ read) in
    told refl sheet.styles (formed_slots sheet formed) (ap (λ q. q.1) (sym is))
sheet_told value head seven slots (Err Memory) read same told = tt
