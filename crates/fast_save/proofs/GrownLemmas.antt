-- How much added text grows by a command: by the items that it puts, and by no more marks behind stories than runs are
-- reckoned for it.
use Rattle.std.specs.Prelude.{ℕ, List}
use Rattle.std.specs.List.{sum_by}
use Rattle.std.proofs.Common.{◌≡◌, ◌∷◌, ◌+◌, ◌<◌, ◌≤◌, [], refl, ap, zero, suc}
use Rattle.std.proofs.Common.{length, replicate, arith, Bool, true, false}
use Rattle.std.proofs.lemmas.List.{length-append, length-replicate}
use Rattle.std.proofs.lemmas.List.Sums.{sum_by-cons}
use Rattle.doc_bits.specs.Together.{AreTogether}
use Rattle.doc_bits.specs.declared.places.Story.{Story}
use Rattle.doc_bits.specs.declared.places.Story.TheVariants.{Main, Note as NoteText, Head as HeadText}
use Rattle.doc_model.specs.declared.item.Item.{Item}
use Rattle.doc_model.specs.declared.document.Document.{Document}
use Rattle.doc_model.specs.Collected.{joined_texts}
use Rattle.doc_model.proofs.Public.{length-joined}
use Rattle.full_save.specs.Text.{extra_mark}
use Rattle.prop_map.specs.Settings.{Properties}
use Rattle.edit_script.specs.declared.commands.Command.{Command}
use Rattle.edit_script.specs.declared.commands.Command.TheVariants.{Insert, Erase, Char, Plain, Para, Style, Field}
use Rattle.edit_script.specs.declared.commands.Command.TheVariants.{Note, Split, Merge, Sect, Row, StyleChar}
use Rattle.edit_script.specs.declared.commands.Command.TheVariants.{StylePara, Bookmark, Unmark, Save}
use Rattle.doc_patch.specs.declared.changes.Change.{Change}
use Rattle.doc_patch.specs.declared.changes.Change.TheVariants.{SpliceText, SpliceNotes}
use Rattle.edit_ops.specs.EditFacts.{edit_facts, items_added}
use Rattle.doc_patch.specs.Places.{items_at, mark_place, note_number}
use Rattle.edit_ops.specs.Fresh.{inserted_items, field_items, base_properties, note_reference, note_items, split_item}
use Rattle.edit_ops.specs.Fresh.{row_items}
use Rattle.edit_ops.specs.Edits.{erased, section_changes, changes_of}
use Rattle.edit_ops.specs.Runs.{reckoned_runs, most_runs_of_section}
use Rattle.session_text.specs.EditSteps.{HasGrownByBlocks, IsBlockOf, items_put}
use Rattle.session_text.proofs.Public.{length-joined as joined_sum}
use Rattle.piece_table.proofs.Public.{others_together}

-- ---- the block of a change

-- two marks at most, where there are items
abbrev marks_most : List Item → ℕ
marks_most [] = 0
marks_most (item ∷ items) = 2

abbrev block_most : Change → ℕ
block_most change = length (items_put change) + marks_most (items_put change)

few_marks : (items : List Item) (marks : ℕ) → marks ≤ 2 → (0 < marks → 0 < length items) → marks ≤ marks_most items
few_marks [] zero few first = omega arith
few_marks [] (suc marks) few first = let none = first (omega arith) in omega (arith, none)
few_marks (item ∷ items) marks few first = few

short_block : (document : Document) (change : Change) (block : List Item) → IsBlockOf document change block →
    length block ≤ block_most change
short_block document change block is =
    let items = items_put change in
    omega (
      arith,
      ap length is.is,
      length-append items (replicate is.marks extra_mark),
      length-replicate is.marks extra_mark,
      few_marks items is.marks is.few is.first,
    )

short_blocks : (document : Document) (changes : List Change) (blocks : List (List Item)) →
    AreTogether (IsBlockOf document) changes blocks → length (joined_texts blocks) ≤ sum_by block_most changes
short_blocks document [] [] together = omega arith
short_blocks document [] (block ∷ blocks) together = let len = together.len in absurd (omega (arith, len))
short_blocks document (change ∷ changes) [] together = let len = together.len in absurd (omega (arith, len))
short_blocks document (change ∷ changes) (block ∷ blocks) together =
    omega (
      arith,
      length-joined block blocks,
      sum_by-cons block_most change changes,
      short_block document change block (together.each 0 change block refl refl),
      short_blocks document changes blocks (others_together (IsBlockOf document) change changes block blocks together),
    )

-- ---- the changes of a command

one_joined : (text : List Item) → length (joined_texts (text ∷ [])) ≡ length text
one_joined text = omega (arith, length-joined text [])

most_marks : (items : List Item) → marks_most items ≤ 2
most_marks [] = omega arith
most_marks (item ∷ items) = omega arith

-- a splice of a text
put_block : (story : Story) (from to : ℕ) (fresh : List Item) →
    block_most (SpliceText story from to fresh) ≤ length fresh + 2
put_block story from to fresh = omega (arith, one_joined fresh, most_marks (joined_texts (fresh ∷ [])))

-- a splice of notes
note_block : (from to : ℕ) (fresh : List (List Item)) →
    block_most (SpliceNotes from to fresh) ≤ sum_by length fresh + 2
note_block from to fresh = omega (arith, joined_sum fresh, most_marks (joined_texts fresh))

erased_blocks : (document : Document) (story : Story) (from to : ℕ) → sum_by block_most (erased document story from
    to) ≤ 0
erased_blocks document Main from to = omega arith
erased_blocks document (NoteText number) from to = omega arith
erased_blocks document (HeadText number) from to = omega arith

section_blocks : (main : List Item) (at : ℕ) (new : Bool) (set : Properties) →
    sum_by block_most (section_changes main at new set)
    ≤ sum_by items_added (section_changes main at new set) + most_runs_of_section new
section_blocks main at false set = omega arith
section_blocks main at true set = omega arith

pub few_blocks : (document : Document) (command : Command) →
    sum_by block_most (changes_of document command)
    ≤ sum_by items_added (changes_of document command) + reckoned_runs command
few_blocks document (Insert story at text) =
    let put = put_block story at at (inserted_items (items_at document story) at text) in omega (arith, put)
few_blocks document (Erase story from to) = let none = erased_blocks document story from to in omega (arith, none)
few_blocks document (Char story from to set) = omega arith
few_blocks document (Plain story from to) = omega arith
few_blocks document (Para story at set) = omega arith
few_blocks document (Style story at istd) = omega arith
few_blocks document (Field story at type code shown) =
    let put = put_block story at at (field_items (base_properties (items_at document story) at) type code shown) in
    omega (arith, put)
few_blocks document (Note at text) =
    let number = note_number document.main at in
    let put = put_block Main at at (note_reference (base_properties document.main at) ∷ []) in
    let note = note_block number number (note_items text ∷ []) in
    omega (arith, put, note)
few_blocks document (Split story at) =
    let put = put_block story at at (split_item (items_at document story) at ∷ []) in omega (arith, put)
few_blocks document (Merge story at) =
    let mark = mark_place (items_at document story) at in
    let none = erased_blocks document story mark (mark + 1) in
    omega (arith, none)
few_blocks document (Sect at new set) = section_blocks document.main at new set
few_blocks document (Row story at width cells) =
    let put = put_block story at at (row_items width cells) in omega (arith, put)
few_blocks document (StyleChar istd set) = omega arith
few_blocks document (StylePara istd set) = omega arith
few_blocks document (Bookmark name from to) = omega arith
few_blocks document (Unmark name) = omega arith
few_blocks document (Save full) = omega arith

pub grown_within : (document : Document) (command : Command) (old new : List Item) →
    HasGrownByBlocks document (changes_of document command) old new →
    length new ≤ length old + (edit_facts document command).units_in + reckoned_runs command
grown_within document command old new grown =
    omega (
      arith,
      ap length grown.items,
      length-append old (joined_texts grown.blocks),
      short_blocks document (changes_of document command) grown.blocks grown.each,
      few_blocks document command,
    )
