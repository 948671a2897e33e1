-- Fields that are open behind the front of a text.
use Rattle.std.proofs.Common.{◌≡◌, ℕ, ◌+◌, ◌<◌, Bool, true, false, List, [], ◌∷◌, ◌++◌, length, take, Option}
use Rattle.std.proofs.Common.{None, Some, refl, sym, ap, ◌∙◌, arith}
use Rattle.std.proofs.Common.{suc, cond, drop, get_or, set}
use Rattle.std.specs.List.{All, find}
use Rattle.std.specs.Option.{option_or}
use Rattle.std.proofs.lemmas.List.{take_more, take_more_set, take-append-drop}
use Rattle.std.proofs.lemmas.List.Folds.{find-append}
use Rattle.std.proofs.Math.Seq.{drop-cons}
use Rattle.std.proofs.lemmas.List.Elements.{All-head, All-tail}
use Rattle.doc_model.specs.declared.item.Item.{Item}
use Rattle.field_links.specs.declared.places.OpenField.{OpenField}
use Rattle.field_links.specs.OpenFields.{result_begun, after_unit, open_after, open_fields}

-- items one after another
pub open_after-append : (place : ℕ) (xs ys : List Item) (fields : List OpenField) → open_after place (xs ++ ys) fields ≡
    open_after (place + length xs) ys (open_after place xs fields)
open_after-append place [] ys fields = ap (λ p. open_after p ys fields) (omega arith)
open_after-append place (x ∷ xs) ys fields =
    open_after-append (place + 1) xs ys (after_unit place x.unit x.fld fields)
    ∙ ap (λ p. open_after p ys (open_after (place + 1) xs (after_unit place x.unit x.fld fields))) (omega arith)

-- the fields behind one item more
pub open_fields-more : (front : List Item) (item : Item) → open_fields (front ++ item ∷ []) ≡ after_unit (length front)
    item.unit item.fld (open_fields front)
open_fields-more front item = open_after-append 0 front (item ∷ []) [] ∙ ap (λ p. after_unit p item.unit item.fld
    (open_fields front)) (omega arith)

open_after-plain : (place : ℕ) (items : List Item) (fields : List OpenField) → All (λ item. item.fld ≡ None) items →
    open_after place items fields ≡ fields
open_after-plain place [] fields plain = refl
open_after-plain place (item ∷ items) fields plain =
    ap (λ fld. open_after (place + 1) items (after_unit place item.unit fld fields)) (All-head (λ i. i.fld ≡ None) item
    items plain) ∙ open_after-plain (place + 1) items fields (All-tail (λ i. i.fld ≡ None) item items plain)

-- items that are no field characters change nothing
pub open_fields-plain : (front items : List Item) → All (λ item. item.fld ≡ None) items → open_fields (front ++ items) ≡
    open_fields front
open_fields-plain front items plain =
    open_after-append 0 front items [] ∙ open_after-plain (0 + length front) items (open_fields front) plain

-- the innermost field, where there is one
pub separated-last : (place : ℕ) (front : List OpenField) (field : OpenField) → result_begun place (front ++ field ∷ [])
    ≡
    front ++ record field { result = Some (place + 1) } ∷ []
separated-last place [] field = refl
separated-last place (outer ∷ []) field = refl
separated-last place (outer ∷ inner ∷ more) field = ap (λ rest. outer ∷ rest) (separated-last place (inner ∷ more) field)

-- the innermost field is put in place of itself, with its result begun
pub separated-set : (fields : List OpenField) (at : ℕ) (none : OpenField) (place : ℕ) → at < length fields → take (at + 1)
    (set fields at (record {
      kind = (get_or fields at none).kind;
      began = (get_or fields at none).began;
      result = Some
          (place + 1);
    })) ≡ result_begun place (take (at + 1) fields)
separated-set fields at none place within =
    let field : OpenField = get_or fields at none in
    let made : OpenField = record { kind = field.kind; began = field.began; result = Some (place + 1) } in
    take_more_set fields at made within ∙ (sym (separated-last place (take at fields) field) ∙ ap (result_begun place)
    (sym
    (take_more fields at none within)))

-- none of one more is found
pub find-more : (p : OpenField → Bool) (fields : List OpenField) (i : ℕ) (none : OpenField) → i < length fields → find p
    (take i fields) ≡ None → p (get_or fields i none) ≡ false → find p (take (i + 1) fields) ≡ None
find-more p fields i none within before other =
    let field : OpenField = get_or fields i none in
    ap (find p) (take_more fields i none within) ∙ (find-append p (take i fields) (field ∷ []) ∙ (ap (λ o. option_or o
    (find p (field ∷ []))) before ∙ ap (λ b. cond {A = Option OpenField} b (Some field) None) other))

-- the first one is found
pub find-first : (p : OpenField → Bool) (fields : List OpenField) (i : ℕ) (none : OpenField) → i < length fields → find p
    (take i fields) ≡ None → p (get_or fields i none) ≡ true → Some (get_or fields i none) ≡ find p fields
find-first p fields i none within before is =
    let field : OpenField = get_or fields i none in
    let rest : drop i fields ≡ field ∷ drop (suc i) fields = drop-cons fields i none within in
    sym (ap (find p) (sym (take-append-drop i fields)) ∙ (find-append p (take i fields) (drop i fields) ∙ (ap (λ o.
    option_or o (find p (drop i fields))) before ∙ (ap (find p) rest ∙ ap (λ b. cond b (Some field) (find p (drop (suc
    i) fields))) is))))
