-- The marks of texts, one item and one text after the other.
use Rattle.std.proofs.Common.{◌≡◌, ◌∙◌, ap, sym, ℕ, ◌+◌, ◌==◌}
use Rattle.std.proofs.Common.{List, map, Some, None, slice_get}
use Rattle.std.specs.Prelude.{if◌then◌else◌}
use Rattle.std.specs.Option.{option_and_then}
use Rattle.std.specs.List.Sorted.{IsPermutation}
use Rattle.std.proofs.lemmas.List.Sorted.{list_any-IsPermutation}
use Rattle.std.proofs.lemmas.Option.{same_Some}
use Rattle.doc_bits.proofs.Public.{from_map, get-map}
use Rattle.doc_bits.specs.declared.places.Story.{Story}
use Rattle.fib_versions.specs.declared.further.Further.TheVariants.{Comments, Endnotes, TextBoxes, HeaderTextBoxes}
use Rattle.doc_model.specs.declared.item.Item.{Item}
use Rattle.doc_columns.specs.declared.attached.Attached.{Attached}
use Rattle.doc_columns.specs.Attached.{attached_of, has_something}
use Rattle.doc_losses.specs.References.{Names, marked_story, marked_story_at, mark_of_unit, where_named}
use Rattle.doc_losses.specs.References.{names_of, mark_cps}
use Rattle.doc_losses.specs.declared.cps.Marks.{Marks}
use Rattle.doc_losses.specs.Marks.{names_of_marks, AreFileMarks}

-- ---- the mark at a place

pub mark_is : (names : Names) (story : Story) (begin at unit : ℕ) (text : List Item) (attached : Attached) →
    slice_get (map (λ item. item.unit) text) at ≡ Some unit → slice_get (map attached_of text) at ≡ Some attached →
    marked_story_at names story begin text at ≡ (if has_something attached then None else where_named names (begin + at)
    (mark_of_unit story unit))
mark_is names story begin at unit text attached unit_is attached_is =
    let item = from_map (λ (item : Item). item.unit) text at unit unit_is in
    let same : attached_of item.0 ≡ attached =
    same_Some (attached_of item.0) attached (sym (get-map attached_of text at item.0 item.1.0) ∙ attached_is) in
    ap (option_and_then (marked_story names story (begin + at))) item.1.0
    ∙ (ap (λ (b : Attached). if has_something b then None else where_named names (begin + at) (mark_of_unit story
    (item.0).unit)) same
    ∙ ap (λ (u : ℕ). if has_something attached then None else where_named names (begin + at) (mark_of_unit story u))
    item.1.1)

-- ---- the CPs of a file

pub marks_of_file : (wd table : List ℕ) (marks : Marks) → IsPermutation (mark_cps wd table Comments) marks.comments →
    IsPermutation (mark_cps wd table Endnotes) marks.endnotes → IsPermutation (mark_cps wd table TextBoxes) marks.boxes →
    IsPermutation (mark_cps wd table HeaderTextBoxes) marks.head_boxes → AreFileMarks wd table marks
marks_of_file wd table marks a b c d Comments cp =
    sym (list_any-IsPermutation (λ (named : ℕ). named == cp) (mark_cps wd table Comments) marks.comments a)
marks_of_file wd table marks a b c d Endnotes cp =
    sym (list_any-IsPermutation (λ (named : ℕ). named == cp) (mark_cps wd table Endnotes) marks.endnotes b)
marks_of_file wd table marks a b c d TextBoxes cp =
    sym (list_any-IsPermutation (λ (named : ℕ). named == cp) (mark_cps wd table TextBoxes) marks.boxes c)
marks_of_file wd table marks a b c d HeaderTextBoxes cp =
    sym (list_any-IsPermutation (λ (named : ℕ). named == cp) (mark_cps wd table HeaderTextBoxes) marks.head_boxes d)

pub same_names : (wd table : List ℕ) (marks : Marks) → AreFileMarks wd table marks → names_of_marks marks ≡ names_of wd
    table
same_names wd table marks are = λ i. λ story cp. are story cp i
