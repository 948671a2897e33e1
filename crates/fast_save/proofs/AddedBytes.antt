-- What the text that a command adds takes in a fast save: two bytes a unit, and the pages of its runs. It is no more
-- than is reckoned for the command: where marks behind a story come, they share a page with the mark before them.
use Rattle.std.specs.Prelude.{ℕ, List, Option, ◌⊎◌, MatchOption, slice_get}
use Rattle.std.specs.List.{sum_by}
use Rattle.std.specs.FinMap.{empty}
use Rattle.std.proofs.Common.{◌≡◌, ◌∙◌, ◌∷◌, ◌++◌, ◌+◌, ◌*◌, ◌<◌, ◌≤◌, [], refl, ap, inl, inr, zero, suc}
use Rattle.std.proofs.Common.{Bool, true, false, Some, None, length, map, replicate, arith, All, ◌==◌}
use Rattle.std.specs.Option.{unwrap_or}
use Rattle.std.proofs.lemmas.Bool.{cases_lt}
use Rattle.std.proofs.lemmas.Option.{none-some, same_Some}
use Rattle.std.proofs.lemmas.List.{length-append, append_assoc, append-nil}
use Rattle.std.proofs.lemmas.List.{replicate-append-replicate}
use Rattle.std.proofs.lemmas.List.Elements.{All-nil, All-cons, All-append, All-head, All-tail}
use Rattle.std.proofs.lemmas.List.Sums.{sum_by-cons}
use Rattle.doc_bits.specs.Together.{AreTogether}
use Rattle.doc_bits.specs.declared.places.Story.{Story}
use Rattle.doc_bits.specs.declared.places.Story.TheVariants.{Main, Note as NoteText, Head as HeadText}
use Rattle.sprm_table.specs.Sprm.{Prl}
use Rattle.prop_map.specs.Settings.{Properties}
use Rattle.prop_map.proofs.Public.{entries-empty}
use Rattle.doc_model.specs.declared.item.Item.{Item}
use Rattle.doc_model.specs.declared.item.Mark.{Mark}
use Rattle.doc_model.specs.declared.document.Document.{Document}
use Rattle.doc_model.specs.Collected.{joined_texts}
use Rattle.doc_model.specs.Stretches.{stretches}
use Rattle.doc_model.proofs.Public.{empty_joined, length-joined}
use Rattle.full_save.specs.Text.{extra_mark}
use Rattle.edit_script.specs.declared.commands.Command.{Command}
use Rattle.edit_script.specs.declared.commands.Command.TheVariants.{Insert, Erase, Char, Plain, Para, Style, Field}
use Rattle.edit_script.specs.declared.commands.Command.TheVariants.{Note, Split, Merge, Sect, Row, StyleChar}
use Rattle.edit_script.specs.declared.commands.Command.TheVariants.{StylePara, Bookmark, Unmark, Save}
use Rattle.doc_patch.specs.declared.changes.Change.{Change}
use Rattle.doc_patch.specs.declared.changes.Change.TheVariants.{SpliceText, ModifyItems, SetSection, SpliceNotes}
use Rattle.doc_patch.specs.declared.changes.Change.TheVariants.{SpliceHeads, SetStyleCharacters, SetStyleParagraphs}
use Rattle.doc_patch.specs.declared.changes.Change.TheVariants.{SetBookmarks}
use Rattle.doc_patch.specs.Places.{items_at, mark_place, section_place, note_number, head_number}
use Rattle.edit_ops.specs.Ranges.{IsInRange, HasText, HasPlace, BeginsParagraph}
use Rattle.edit_ops.specs.Fresh.{unit_item, unit_items, plain_end, special, mark_with, note_reference, note_items}
use Rattle.edit_ops.specs.Fresh.{inserted_items, base_properties, field_items, split_item, section_item, row_items}
use Rattle.edit_ops.specs.EditFacts.{edit_facts, items_added}
use Rattle.edit_ops.specs.Bookmarks.{new_bookmark, with_bookmark, without_bookmark}
use Rattle.edit_ops.specs.Edits.{erased, section_changes, changes_of, property_characters, property_paragraphs}
use Rattle.edit_ops.specs.Edits.{clearing}
use Rattle.edit_ops.specs.Edits.{naming_style}
use Rattle.edit_ops.specs.Runs.{run_count, texts_put, reckoned_runs}
use Rattle.edit_ops.proofs.Public.{few_runs, HasChp, one_run, units_have}
use Rattle.session_text.specs.AddedText.{marked_block}
use Rattle.session_text.specs.EditSteps.{HasGrownByBlocks, IsBlockOf, NamesEmptyStory, items_put}
use Rattle.save_laws.specs.SharedPages.{pages_begun, item_marks, is_bare_mark, page_bound}
use Rattle.save_laws.proofs.Public.{both_marks, page_bounds_are_fewer, page_bounds_add, bare_marks_share}
use Rattle.session_text.proofs.Public.{length-marked, length-joined as joined_sum}
use Rattle.piece_table.proofs.Public.{others_together}

abbrev pub bytes_of : List Item → ℕ
bytes_of items = 2 * length items + 512 * page_bound items

pub bytes-append : (one other : List Item) → bytes_of (one ++ other) ≤ bytes_of one + bytes_of other
bytes-append one other =
    let runs = page_bounds_add one other in omega (arith, length-append one other, runs)

-- ---- texts without marks behind them

pages_within : (texts : List (List Item)) → page_bound (joined_texts texts) ≤ sum_by run_count texts
unfolding stretches pages_begun
pages_within [] = omega arith
pages_within (text ∷ texts) =
    let both = page_bounds_add text (joined_texts texts) in
    let fewer = page_bounds_are_fewer text in
    let more = pages_within texts in
    omega (arith, both, fewer, more, sum_by-cons run_count text texts)

-- the items that a change puts are those that are counted
put_length : (change : Change) → length (items_put change) ≡ items_added change
put_length (SpliceText story from to fresh) = omega (arith, joined_sum (fresh ∷ []))
put_length (ModifyItems story from to by) = refl
put_length (SetSection at set) = refl
put_length (SpliceNotes from to fresh) = joined_sum fresh
put_length (SpliceHeads from to fresh) = joined_sum fresh
put_length (SetStyleCharacters istd set) = refl
put_length (SetStyleParagraphs istd set) = refl
put_length (SetBookmarks list) = refl

abbrev change_runs : Change → ℕ
change_runs change = sum_by run_count (texts_put change)

put_bytes : (change : Change) → bytes_of (items_put change) ≤ 2 * items_added change + 512 * change_runs change
put_bytes change =
    let runs = pages_within (texts_put change) in omega (arith, put_length change, runs)

-- ---- a block has marks where its story had no items

no_marks : (items : List Item) (marks : ℕ) → marks ≡ 0 → marked_block items marks ≡ items
no_marks items marks none = ap (marked_block items) none ∙ append-nil items

pub unmarked_story : (document : Document) (change : Change) (block : List Item) → ¬ (NamesEmptyStory document change) →
    IsBlockOf document change block → block ≡ items_put change
unmarked_story document change block full is = elim (cases_lt 0 is.marks) [
  | inl some ↦ absurd (full (is.empty some))
  | inr none ↦ is.is ∙ no_marks (items_put change) is.marks (omega (arith, none))
]

pub unmarked_nothing : (document : Document) (change : Change) (block : List Item) → length (items_put change) ≡ 0 →
    IsBlockOf document change block → block ≡ items_put change
unmarked_nothing document change block nothing is = elim (cases_lt 0 is.marks) [
  | inl some ↦ let first = is.first some in absurd (omega (arith, first, nothing))
  | inr none ↦ is.is ∙ no_marks (items_put change) is.marks (omega (arith, none))
]

-- a change whose blocks have no marks
abbrev IsUnmarked : Document → Change → Type 0
IsUnmarked document change = (block : List Item) → IsBlockOf document change block → block ≡ items_put change

unmarked_bytes : (document : Document) (changes : List Change) (blocks : List (List Item)) →
    AreTogether (IsBlockOf document) changes blocks → All (IsUnmarked document) changes →
    bytes_of (joined_texts blocks) ≤ 2 * sum_by items_added changes + 512 * sum_by change_runs changes
unfolding stretches pages_begun
unmarked_bytes document [] [] together all = omega arith
unmarked_bytes document [] (block ∷ blocks) together all = let len = together.len in absurd (omega (arith, len))
unmarked_bytes document (change ∷ changes) [] together all = let len = together.len in absurd (omega (arith, len))
unmarked_bytes document (change ∷ changes) (block ∷ blocks) together all =
    let same = All-head (IsUnmarked document) change changes all block (together.each 0 change block refl refl) in
    let first = put_bytes change in
    let more =
    unmarked_bytes document changes blocks (others_together (IsBlockOf document) change changes block blocks together)
    (All-tail (IsUnmarked document) change changes all) in
    let both = bytes-append block (joined_texts blocks) in
    omega (
      arith,
      ap bytes_of same,
      first,
      more,
      both,
      sum_by-cons items_added change changes,
      sum_by-cons change_runs change changes,
    )

-- ---- a block that ends with plain marks

abbrev ends_of : ℕ → List Item
ends_of count = replicate count plain_end

ends_have : (count : ℕ) → All (HasChp empty) (ends_of count)
ends_have zero = All-nil (HasChp empty)
ends_have (suc count) = All-cons (HasChp empty) plain_end (ends_of count) refl (ends_have count)

abbrev IsBareMark : Mark → Type 0
IsBareMark mark = is_bare_mark mark ≡ true

plain_is_bare : IsBareMark (mark_with empty)
plain_is_bare = ap (λ (list : List Prl). length list == 0) entries-empty

-- their marks are bare, and no more than they are
record AreBareMarks (marks : List Mark) (count : ℕ) : Type 0 where
  bare : All IsBareMark marks
  few : length marks ≤ count

ends_bare : (count : ℕ) → AreBareMarks (item_marks (ends_of count)) count
ends_bare zero = record { bare = All-nil IsBareMark; few = omega arith }
ends_bare (suc count) =
    let rest = ends_bare count in
    let few = rest.few in
    record {
      bare = All-cons IsBareMark (mark_with empty) (item_marks (ends_of count)) plain_is_bare rest.bare;
      few = omega (arith, few);
    }

unit_marks : (chp : Properties) (units : List ℕ) → item_marks (unit_items chp units) ≡ []
unit_marks chp [] = refl
unit_marks chp (unit ∷ units) = unit_marks chp units

-- units without properties and some plain marks: a page of characters and one of paragraphs
plain_text : (units : List ℕ) (count : ℕ) → count ≤ 29 → page_bound (unit_items empty units ++ ends_of count) ≤ 2
plain_text units count small =
    let items = unit_items empty units ++ ends_of count in
    let all =
    All-append (HasChp empty) (unit_items empty units) (ends_of count) (units_have empty units) (ends_have count) in
    let one = one_run empty items all in
    let marks : item_marks items ≡ item_marks (ends_of count) =
    both_marks (unit_items empty units) (ends_of count)
    ∙ ap (λ (list : List Mark). list ++ item_marks (ends_of count)) (unit_marks empty units) in
    let bare = ends_bare count in
    let few = bare.few in
    let share = bare_marks_share (item_marks (ends_of count)) bare.bare (omega (arith, few, small)) in
    omega (arith, one, ap (λ (list : List Mark). pages_begun 0 (map is_bare_mark list)) marks, share)

one_unit : (item : Item) → item.mark ≡ None → page_bound (item ∷ []) ≤ 1
unfolding stretches pages_begun
one_unit item none = rw none (omega arith)

-- ---- stories that have items

full_texts : (texts : List (List Item)) (k at : ℕ) (such : List Item → Type 0) →
    ((text : List Item) → such text → at < length text) → (found : Option (List Item)) → slice_get texts k ≡ found →
    MatchOption found ⊥ such → ¬ (joined_texts texts ≡ [])
full_texts texts k at such within None there has = λ none. absurd has
full_texts texts k at such within (Some text) there has = λ none.
    let empty : text ≡ [] = empty_joined texts k text (ap length none) there in
    let low = within text has in
    absurd (omega (arith, low, ap length empty))

one_unmarked : (document : Document) (change : Change) → IsUnmarked document change →
    All (IsUnmarked document) (change ∷ [])
one_unmarked document change is = All-cons (IsUnmarked document) change [] is (All-nil (IsUnmarked document))

-- items that are put before an item
pub put_unmarked : (document : Document) (story : Story) (at : ℕ) (items : List Item) (such : List Item → Type 0) →
    ((text : List Item) → such text → at < length text) → HasText document story such →
    All (IsUnmarked document) (SpliceText story at at items ∷ [])
put_unmarked document Main at items such within has =
    one_unmarked document (SpliceText Main at at items)
    (λ block is. unmarked_story document (SpliceText Main at at items) block (λ none. none) is)
put_unmarked document (NoteText k) at items such within has =
    one_unmarked document (SpliceText (NoteText k) at at items)
    (λ block is.
    unmarked_story document (SpliceText (NoteText k) at at items) block
    (full_texts document.notes k at such within (slice_get document.notes k) refl has) is)
put_unmarked document (HeadText k) at items such within has =
    one_unmarked document (SpliceText (HeadText k) at at items)
    (λ block is.
    unmarked_story document (SpliceText (HeadText k) at at items) block
    (full_texts document.heads k at such within (slice_get document.heads k) refl has) is)

nothing_unmarked : (document : Document) (change : Change) → length (items_put change) ≡ 0 → IsUnmarked document change
nothing_unmarked document change nothing = λ block is. unmarked_nothing document change block nothing is

erased_unmarked : (document : Document) (story : Story) (from to : ℕ) →
    All (IsUnmarked document) (erased document story from to)
erased_unmarked document Main from to =
    let main = SpliceText Main from to [] in
    let notes = SpliceNotes (note_number document.main from) (note_number document.main to) [] in
    let heads = SpliceHeads (head_number document.main from) (head_number document.main to) [] in
    All-cons (IsUnmarked document) main (notes ∷ heads ∷ []) (nothing_unmarked document main refl)
    (All-cons (IsUnmarked document) notes (heads ∷ []) (nothing_unmarked document notes refl)
    (one_unmarked document heads (nothing_unmarked document heads refl)))
erased_unmarked document (NoteText number) from to =
    let change = SpliceText (NoteText number) from to [] in
    one_unmarked document change (nothing_unmarked document change refl)
erased_unmarked document (HeadText number) from to =
    let change = SpliceText (HeadText number) from to [] in
    one_unmarked document change (nothing_unmarked document change refl)

section_unmarked : (document : Document) (at : ℕ) (new : Bool) (set : Properties) →
    All (IsUnmarked document) (section_changes document.main at new set)
section_unmarked document at false set =
    let change = SetSection (section_place document.main at) set in
    one_unmarked document change (nothing_unmarked document change refl)
section_unmarked document at true set =
    let main = SpliceText Main at at (section_item document.main at set ∷ []) in
    let heads = SpliceHeads (head_number document.main at) (head_number document.main at) (replicate 6 []) in
    All-cons (IsUnmarked document) main (heads ∷ []) (λ block is. unmarked_story document main block (λ none. none) is)
    (one_unmarked document heads (nothing_unmarked document heads refl))

-- ---- an insertion into an empty header text, and a note

-- units, plain marks and the marks behind them
more_ends : (units : List ℕ) (count marks : ℕ) →
    (unit_items empty units ++ ends_of count) ++ replicate marks extra_mark
    ≡ unit_items empty units ++ ends_of (count + marks)
more_ends units count marks =
    append_assoc (unit_items empty units) (ends_of count) (replicate marks extra_mark)
    ∙ ap (λ (list : List Item). unit_items empty units ++ list) (replicate-append-replicate count marks plain_end)

first_bytes : (document : Document) (story : Story) (at : ℕ) (units : List ℕ) (items : List Item) (block : List Item) →
    items ≡ unit_items empty units ++ plain_end ∷ plain_end ∷ [] → IsBlockOf document (SpliceText story at at items)
    block →
    bytes_of block ≤ 2 * length items + 1028
first_bytes document story at units items block are is =
    let few = is.few in
    let same : block ≡ marked_block items is.marks =
    is.is ∙ ap (λ (list : List Item). marked_block list is.marks) (append-nil items) in
    let whole : block ≡ unit_items empty units ++ ends_of (2 + is.marks) =
    same ∙ (ap (λ (list : List Item). list ++ replicate is.marks extra_mark) are ∙ more_ends units 2 is.marks) in
    let pages = plain_text units (2 + is.marks) (omega (arith, few)) in
    omega (arith, ap length same, length-marked items is.marks, few, ap page_bound whole, pages)

note_bytes : (document : Document) (number : ℕ) (units : List ℕ) (block : List Item) →
    IsBlockOf document (SpliceNotes number number (note_items units ∷ [])) block →
    bytes_of block ≤ 2 * length (note_items units) + 4 + 512 * 3
note_bytes document number units block is =
    let first = unit_item (special empty) 0x02 in
    let few = is.few in
    let same : block ≡ marked_block (note_items units) is.marks =
    is.is ∙ ap (λ (list : List Item). marked_block list is.marks) (append-nil (note_items units)) in
    let rest = unit_items empty units ++ ends_of (1 + is.marks) in
    let whole : block ≡ first ∷ rest =
    same ∙ ap (λ (list : List Item). first ∷ list) (more_ends units 1 is.marks) in
    let both = page_bounds_add (first ∷ []) rest in
    let one = one_unit first refl in
    let pages = plain_text units (1 + is.marks) (omega (arith, few)) in
    omega (arith, ap length same, length-marked (note_items units) is.marks, few, ap page_bound whole, both, one, pages)

one_block : (document : Document) (change : Change) (blocks : List (List Item)) (most : ℕ) →
    ((block : List Item) → IsBlockOf document change block → bytes_of block ≤ most) →
    AreTogether (IsBlockOf document) (change ∷ []) blocks → bytes_of (joined_texts blocks) ≤ most
one_block document change [] most within together = let len = together.len in absurd (omega (arith, len))
one_block document change (block ∷ []) most within together =
    let first = within block (together.each 0 change block refl refl) in
    omega (arith, ap bytes_of (append-nil block), first)
one_block document change (block ∷ other ∷ blocks) most within together =
    let len = together.len in absurd (omega (arith, len))

two_blocks : (document : Document) (change next : Change) (blocks : List (List Item)) (most rest : ℕ) →
    ((block : List Item) → IsBlockOf document change block → bytes_of block ≤ most) →
    ((block : List Item) → IsBlockOf document next block → bytes_of block ≤ rest) →
    AreTogether (IsBlockOf document) (change ∷ next ∷ []) blocks → bytes_of (joined_texts blocks) ≤ most + rest
two_blocks document change next [] most rest within later together = let len = together.len in
    absurd (omega (arith, len))
two_blocks document change next (block ∷ blocks) most rest within later together =
    let first = within block (together.each 0 change block refl refl) in
    let more =
    one_block document next blocks rest later
    (others_together (IsBlockOf document) change (next ∷ []) block blocks together) in
    let both = bytes-append block (joined_texts blocks) in
    omega (arith, first, more, both)

reference_bytes : (document : Document) (at : ℕ) (base : Properties) (block : List Item) →
    IsBlockOf document (SpliceText Main at at (note_reference base ∷ [])) block → bytes_of block ≤ 2 + 512
reference_bytes document at base block is =
    let same =
    unmarked_story document (SpliceText Main at at (note_reference base ∷ [])) block (λ none. none) is in
    let one = one_unit (note_reference base) refl in
    omega (arith, ap bytes_of same, one)

-- ---- the changes of a command

abbrev pub IsWithin : Document → Command → List (List Item) → Type 0
IsWithin document command blocks =
    bytes_of (joined_texts blocks) ≤ 2 * (edit_facts document command).units_in + 512 * reckoned_runs command

by_unmarked : (document : Document) (command : Command) (blocks : List (List Item)) →
    AreTogether (IsBlockOf document) (changes_of document command) blocks →
    All (IsUnmarked document) (changes_of document command) → IsWithin document command blocks
by_unmarked document command blocks together all =
    let bytes = unmarked_bytes document (changes_of document command) blocks together all in
    let runs = few_runs document command in
    omega (arith, bytes, runs)

first_items : (items : List Item) (at : ℕ) (units : List ℕ) → length items ≡ 0 →
    inserted_items items at units ≡ unit_items empty units ++ plain_end ∷ plain_end ∷ []
first_items [] at units none = refl
first_items (item ∷ items) at units none = absurd (omega (arith, none))

found_text : (found : Option (List Item)) (text : List Item) → found ≡ Some text → unwrap_or found [] ≡ text
found_text None text is = absurd (none-some text is)
found_text (Some other) text is = same_Some other text is

head_insert : (document : Document) (k at : ℕ) (units : List ℕ) (found : Option (List Item)) →
    slice_get document.heads k ≡ found →
    MatchOption found ⊥ (λ text. (at < length text) ⊎ ((at ≡ 0) × (length text ≡ 0))) → (blocks : List (List Item)) →
    AreTogether (IsBlockOf document) (changes_of document (Insert (HeadText k) at units)) blocks →
    IsWithin document (Insert (HeadText k) at units) blocks
head_insert document k at units None there has blocks together = absurd has
head_insert document k at units (Some text) there (inl low) blocks together =
    let items = inserted_items (items_at document (HeadText k)) at units in
    let full =
    full_texts document.heads k at (λ other. at < length other) (λ other is. is) (Some text) there low in
    by_unmarked document (Insert (HeadText k) at units) blocks together
    (one_unmarked document (SpliceText (HeadText k) at at items)
    (λ block is. unmarked_story document (SpliceText (HeadText k) at at items) block full is))
head_insert document k at units (Some text) there (inr empty) blocks together =
    let now = items_at document (HeadText k) in
    let same : now ≡ text = found_text (slice_get document.heads k) text there in
    let none : length now ≡ 0 = ap length same ∙ empty.1 in
    let items = inserted_items now at units in
    let bytes =
    one_block document (SpliceText (HeadText k) at at items) blocks (2 * length items + 1028)
    (λ block is. first_bytes document (HeadText k) at units items block (first_items now at units none) is) together in
    omega (arith, bytes)

pub added_within : (document : Document) (command : Command) → IsInRange document command →
    (blocks : List (List Item)) → AreTogether (IsBlockOf document) (changes_of document command) blocks →
    IsWithin document command blocks
added_within document (Insert Main at text) range blocks together =
    by_unmarked document (Insert Main at text) blocks together
    (put_unmarked document Main at (inserted_items document.main at text) (λ other. at < length other) (λ other is.
    is) range)
added_within document (Insert (NoteText k) at text) range blocks together =
    by_unmarked document (Insert (NoteText k) at text) blocks together
    (put_unmarked document (NoteText k) at (inserted_items (items_at document (NoteText k)) at text)
    (λ other. at < length other) (λ other is. is) range)
added_within document (Insert (HeadText k) at text) range blocks together =
    head_insert document k at text (slice_get document.heads k) refl range blocks together
added_within document (Erase story from to) range blocks together =
    by_unmarked document (Erase story from to) blocks together (erased_unmarked document story from to)
added_within document (Char story from to set) range blocks together =
    let change = ModifyItems story from to (property_characters set) in
    by_unmarked document (Char story from to set) blocks together
    (one_unmarked document change (nothing_unmarked document change refl))
added_within document (Plain story from to) range blocks together =
    let change = ModifyItems story from to clearing in
    by_unmarked document (Plain story from to) blocks together
    (one_unmarked document change (nothing_unmarked document change refl))
added_within document (Para story at set) range blocks together =
    let mark = mark_place (items_at document story) at in
    let change = ModifyItems story mark (mark + 1) (property_paragraphs set) in
    by_unmarked document (Para story at set) blocks together
    (one_unmarked document change (nothing_unmarked document change refl))
added_within document (Style story at istd) range blocks together =
    let mark = mark_place (items_at document story) at in
    let change = ModifyItems story mark (mark + 1) (naming_style istd) in
    by_unmarked document (Style story at istd) blocks together
    (one_unmarked document change (nothing_unmarked document change refl))
added_within document (Field story at type code shown) range blocks together =
    by_unmarked document (Field story at type code shown) blocks together
    (put_unmarked document story at (field_items (base_properties (items_at document story) at) type code shown)
    (HasPlace at) (λ other is. is) range)
added_within document (Note at text) range blocks together =
    let number = note_number document.main at in
    let base = base_properties document.main at in
    let bytes =
    two_blocks document (SpliceText Main at at (note_reference base ∷ []))
    (SpliceNotes number number (note_items text ∷ [])) blocks (2 + 512) (2 * length (note_items text) + 4 + 512 * 3)
    (λ block is. reference_bytes document at base block is) (λ block is. note_bytes document number text block is)
    together in
    omega (arith, bytes)
added_within document (Split story at) range blocks together =
    by_unmarked document (Split story at) blocks together
    (put_unmarked document story at (split_item (items_at document story) at ∷ []) (HasPlace at) (λ other is. is) range)
added_within document (Merge story at) range blocks together =
    let mark = mark_place (items_at document story) at in
    by_unmarked document (Merge story at) blocks together (erased_unmarked document story mark (mark + 1))
added_within document (Sect at new set) range blocks together =
    by_unmarked document (Sect at new set) blocks together (section_unmarked document at new set)
added_within document (Row story at width cells) range blocks together =
    by_unmarked document (Row story at width cells) blocks together
    (put_unmarked document story at (row_items width cells) (BeginsParagraph at) (λ other is. is.0) range)
added_within document (StyleChar istd set) range blocks together =
    let change = SetStyleCharacters istd set in
    by_unmarked document (StyleChar istd set) blocks together
    (one_unmarked document change (nothing_unmarked document change refl))
added_within document (StylePara istd set) range blocks together =
    let change = SetStyleParagraphs istd set in
    by_unmarked document (StylePara istd set) blocks together
    (one_unmarked document change (nothing_unmarked document change refl))
added_within document (Bookmark name from to) range blocks together =
    let change = SetBookmarks (with_bookmark (new_bookmark name from to) document.bookmarks) in
    by_unmarked document (Bookmark name from to) blocks together
    (one_unmarked document change (nothing_unmarked document change refl))
added_within document (Unmark name) range blocks together =
    let change = SetBookmarks (without_bookmark name document.bookmarks) in
    by_unmarked document (Unmark name) blocks together
    (one_unmarked document change (nothing_unmarked document change refl))
added_within document (Save full) range blocks together =
    by_unmarked document (Save full) blocks together (All-nil (IsUnmarked document))

-- a block has the items that are counted, at least
long_block : (document : Document) (change : Change) (block : List Item) → IsBlockOf document change block →
    items_added change ≤ length block
long_block document change block is =
    omega (
      arith,
      ap length is.is,
      length-append (items_put change) (replicate is.marks extra_mark),
      put_length change,
    )

long_blocks : (document : Document) (changes : List Change) (blocks : List (List Item)) →
    AreTogether (IsBlockOf document) changes blocks → sum_by items_added changes ≤ length (joined_texts blocks)
long_blocks document [] [] together = omega arith
long_blocks document [] (block ∷ blocks) together = let len = together.len in absurd (omega (arith, len))
long_blocks document (change ∷ changes) [] together = let len = together.len in absurd (omega (arith, len))
long_blocks document (change ∷ changes) (block ∷ blocks) together =
    let first = long_block document change block (together.each 0 change block refl refl) in
    let more =
    long_blocks document changes blocks (others_together (IsBlockOf document) change changes block blocks together) in
    omega (arith, length-joined block blocks, sum_by-cons items_added change changes, first, more)

-- the runs of added text after a command
pub runs_after : (document : Document) (command : Command) (old new : List Item) → IsInRange document command →
    HasGrownByBlocks document (changes_of document command) old new →
    page_bound new ≤ page_bound old + reckoned_runs command
runs_after document command old new range grown =
    let within = added_within document command range grown.blocks grown.each in
    let long = long_blocks document (changes_of document command) grown.blocks grown.each in
    let both = page_bounds_add old (joined_texts grown.blocks) in
    omega (arith, ap page_bound grown.items, within, long, both)

-- what added text takes after a command
pub bytes_after : (document : Document) (command : Command) (old new : List Item) → IsInRange document command →
    HasGrownByBlocks document (changes_of document command) old new →
    bytes_of new ≤ bytes_of old + 2 * (edit_facts document command).units_in + 512 * reckoned_runs command
bytes_after document command old new range grown =
    let within = added_within document command range grown.blocks grown.each in
    let both = bytes-append old (joined_texts grown.blocks) in
    omega (arith, ap bytes_of grown.items, within, both)
