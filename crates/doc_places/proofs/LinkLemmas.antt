-- The last reference to a note.
use Rattle.std.proofs.Common.{◌≡◌, ◌∙◌, ℕ, zero, suc, Bool, true, false, List, [], ◌∷◌, ◌++◌, length, refl, ap}
use Rattle.std.specs.Prelude.{if◌then◌else◌, is_some}
use Rattle.doc_model.specs.declared.item.Item.{Item}
use Rattle.doc_places.specs.Places.{count_up_to, up_to_reference}

last_one : (is_reference : Bool) → count_up_to is_reference 0 ≡ (if is_reference then suc zero else 0)
last_one true = refl
last_one false = refl

up_to_by : (first last : Bool) (long short : ℕ) → count_up_to first (if last then suc long else short) ≡ (if last then
    suc (suc long) else count_up_to first short)
up_to_by first true long short = refl
up_to_by first false long short = refl

-- behind one more item
pub up_to_reference-more : (front : List Item) (item : Item) → up_to_reference (front ++ item ∷ []) ≡ (if is_some item.note
    then suc (length front) else up_to_reference front)
up_to_reference-more [] item = last_one (is_some item.note)
up_to_reference-more (first ∷ front) item =
    ap (count_up_to (is_some first.note)) (up_to_reference-more front item)
    ∙ up_to_by (is_some first.note) (is_some item.note) (length front) (up_to_reference front)
