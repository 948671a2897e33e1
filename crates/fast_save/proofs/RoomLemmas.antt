-- An accepted edit adds no more items than a sound document has, and one.
use Rattle.std.specs.Prelude.{ℕ, List, Option, MatchOption, slice_get, slice_set}
use Rattle.std.specs.List.{sum_by, splice}
use Rattle.std.proofs.Common.{◌≡◌, ◌∷◌, ◌++◌, ◌+◌, ◌≤◌, [], refl, ap, suc, Bool}
use Rattle.std.proofs.Common.{true, false, Some, None, length, take, drop, arith}
use Rattle.std.proofs.lemmas.List.{length-append}
use Rattle.std.proofs.lemmas.List.{set_split}
use Rattle.std.proofs.lemmas.List.Sums.{sum_by-append, sum_by-cons}
use Rattle.std.proofs.lemmas.Option.{slice_get_within}
use Rattle.doc_bits.specs.declared.places.Story.{Story}
use Rattle.doc_bits.specs.declared.places.Story.TheVariants.{Main, Note as NoteText, Head as HeadText}
use Rattle.prop_map.specs.Settings.{Properties}
use Rattle.doc_model.specs.declared.item.Item.{Item}
use Rattle.doc_model.specs.declared.document.Document.{Document}
use Rattle.plain_doc.specs.RulesOfSheet.{item_count}
use Rattle.plain_doc.proofs.Public.{sound_is_valid}
use Rattle.edit_script.specs.declared.commands.Command.{Command}
use Rattle.edit_script.specs.declared.commands.Command.TheVariants.{Insert, Erase, Char, Plain, Para, Style, Field}
use Rattle.edit_script.specs.declared.commands.Command.TheVariants.{Note, Split, Merge, Sect, Row, StyleChar}
use Rattle.edit_script.specs.declared.commands.Command.TheVariants.{StylePara, Bookmark, Unmark, Save}
use Rattle.doc_patch.specs.Places.{items_at, mark_place, note_number}
use Rattle.edit_ops.specs.Ranges.{HasText, IsInRange}
use Rattle.doc_patch.specs.declared.changes.Change.TheVariants.{SpliceText}
use Rattle.doc_patch.specs.Changes.{changed, put_changed}
use Rattle.edit_ops.specs.Causes.{IsAcceptedEdit}
use Rattle.edit_ops.specs.Fresh.{inserted_items, field_items, base_properties, note_items, split_item}
use Rattle.edit_ops.specs.Fresh.{row_items}
use Rattle.edit_ops.specs.Edits.{erased, section_changes, document_after}
use Rattle.edit_ops.specs.EditFacts.{edit_facts, items_added}
use Rattle.fast_save.specs.Edited.{EditsAddLittle}
use Rattle.fast_save.proofs.CommandLemmas.{few_reckoned, few_sections}

-- ---- what is put is there

length_put : {A : Type 0} (xs : List A) (from to : ℕ) (fresh : List A) → length fresh ≤ length (splice xs from to fresh)
length_put xs from to fresh =
    omega (
      arith,
      length-append (take from xs) (fresh ++ drop to xs),
      length-append fresh (drop to xs),
    )

sum_put : (texts : List (List Item)) (from to : ℕ) (fresh : List (List Item)) →
    sum_by length fresh ≤ sum_by length (splice texts from to fresh)
sum_put texts from to fresh =
    omega (
      arith,
      sum_by-append (λ (text : List Item). length text) (take from texts) (fresh ++ drop to texts),
      sum_by-append (λ (text : List Item). length text) fresh (drop to texts),
    )

set_in_sum : (texts : List (List Item)) (k : ℕ) (text new : List Item) → slice_get texts k ≡ Some text →
    length new ≤ sum_by length (slice_set texts k new)
set_in_sum texts k text new there =
    let low = slice_get_within texts k text there in
    let len : List Item → ℕ = λ text. length text in
    omega (
      arith,
      ap (sum_by len) (set_split texts k new low),
      sum_by-append len (take k texts) (new ∷ drop (suc k) texts),
      sum_by-cons len new (drop (suc k) texts),
    )

put_in_sum : (texts : List (List Item)) (k from to : ℕ) (fresh : List Item) (such : List Item → Type 0)
    (found : Option (List Item)) → slice_get texts k ≡ found → MatchOption found ⊥ such →
    length fresh ≤ sum_by length (put_changed texts k (λ text. splice text from to fresh) found)
put_in_sum texts k from to fresh such None there has = absurd has
put_in_sum texts k from to fresh such (Some text) there has =
    let put = length_put text from to fresh in
    let sum = set_in_sum texts k text (splice text from to fresh) there in
    omega (arith, put, sum)

-- items that are put into a text are among those of the document
put_in_text : (document : Document) (story : Story) (from to : ℕ) (fresh : List Item) (such : List Item → Type 0) →
    HasText document story such →
    length fresh ≤ item_count (changed (SpliceText story from to fresh) document)
put_in_text document Main from to fresh such has = omega (arith, length_put document.main from to fresh)
put_in_text document (NoteText k) from to fresh such has =
    let put = put_in_sum document.notes k from to fresh such (slice_get document.notes k) refl has in omega (arith, put)
put_in_text document (HeadText k) from to fresh such has =
    let put = put_in_sum document.heads k from to fresh such (slice_get document.heads k) refl has in omega (arith, put)

-- ---- the changes of a command

erased_adds : (document : Document) (story : Story) (from to : ℕ) → sum_by items_added (erased document story from to)
    ≤ 0
erased_adds document Main from to = omega arith
erased_adds document (NoteText number) from to = omega arith
erased_adds document (HeadText number) from to = omega arith

section_adds : (main : List Item) (at : ℕ) (new : Bool) (set : Properties) →
    sum_by items_added (section_changes main at new set) ≤ 1
section_adds main at false set = omega arith
section_adds main at true set = omega arith

units_within : (document : Document) (command : Command) → IsInRange document command →
    (edit_facts document command).units_in ≤ item_count (document_after document command) + 1
units_within document (Insert story at text) range =
    let put = put_in_text document story at at (inserted_items (items_at document story) at text) _ range in
    omega (arith, put)
units_within document (Erase story from to) range = let none = erased_adds document story from to in omega (arith, none)
units_within document (Char story from to set) range = omega arith
units_within document (Plain story from to) range = omega arith
units_within document (Para story at set) range = omega arith
units_within document (Style story at istd) range = omega arith
units_within document (Field story at type code shown) range =
    let items = field_items (base_properties (items_at document story) at) type code shown in
    let put = put_in_text document story at at items _ range in
    omega (arith, put)
units_within document (Note at text) range =
    let number = note_number document.main at in
    let put = sum_put document.notes number number (note_items text ∷ []) in
    omega (arith, put)
units_within document (Split story at) range =
    let put = put_in_text document story at at (split_item (items_at document story) at ∷ []) _ range in
    omega (arith, put)
units_within document (Merge story at) range =
    let mark = mark_place (items_at document story) at in
    let none = erased_adds document story mark (mark + 1) in
    omega (arith, none)
units_within document (Sect at new set) range =
    let one = section_adds document.main at new set in omega (arith, one)
units_within document (Row story at width cells) range =
    let put = put_in_text document story at at (row_items width cells) _ range in omega (arith, put)
units_within document (StyleChar istd set) range = omega arith
units_within document (StylePara istd set) range = omega arith
units_within document (Bookmark name from to) range = omega arith
units_within document (Unmark name) range = omega arith
units_within document (Save full) range = omega arith

pub few_units : (document : Document) (command : Command) → IsAcceptedEdit document command →
    (edit_facts document command).units_in ≤ 499999
few_units document command accepted =
    let few = (sound_is_valid (document_after document command) accepted.sound).few in
    let within = units_within document command accepted.tried.range in
    omega (arith, few, within)

pub edits_add_little : EditsAddLittle
edits_add_little document command counts accepted =
    let units = few_units document command accepted in
    let runs = few_reckoned command accepted.tried.codes in
    let sections = few_sections command in
    omega (arith, units, runs, sections)
