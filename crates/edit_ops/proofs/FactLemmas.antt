-- What the changes of an edit add and remove can be counted.
use Rattle.std.proofs.Common.{◌≡◌, refl, ℕ, ◌+◌, ◌^◌, ◌<◌, ◌≤◌, List, [], ◌∷◌, length, Option, Some, None, arith}
use Rattle.std.proofs.Common.{length-append}
use Rattle.std.specs.FinMap.{empty}
use Rattle.std.specs.Prelude.{Bool, true, false, MatchOption, replicate}
use Rattle.std.specs.List.{All, sum_by}
use Rattle.std.proofs.lemmas.List.Elements.{All-cons, All-nil}
use Rattle.std.proofs.lemmas.List.Sums.{sum_by-cons}
use Rattle.std.proofs.lemmas.List.Folds.{sum_by-replicate}
use Rattle.doc_bits.specs.declared.places.Story.{Story}
use Rattle.doc_bits.specs.declared.places.Story.TheVariants.{Main, Note as NoteText, Head as HeadText}
use Rattle.prop_map.specs.Settings.{Properties}
use Rattle.doc_model.specs.declared.item.Item.{Item}
use Rattle.doc_model.specs.declared.document.Document.{Document}
use Rattle.plain_doc.specs.Sound.{IsSound}
use Rattle.plain_doc.specs.RightDocument.{IsValidDocument}
use Rattle.plain_doc.proofs.Public.{sound_is_valid}
use Rattle.edit_script.specs.declared.commands.Command.{Command}
use Rattle.edit_script.specs.declared.commands.Command.TheVariants.{Insert, Erase, Char, Plain, Para, Style, Field}
use Rattle.edit_script.specs.declared.commands.Command.TheVariants.{Note, Split, Merge, Sect, Row, StyleChar}
use Rattle.edit_script.specs.declared.commands.Command.TheVariants.{StylePara, Bookmark, Unmark, Save}
use Rattle.doc_patch.specs.declared.changes.Change.{Change}
use Rattle.doc_patch.specs.declared.changes.Change.TheVariants.{SpliceText, ModifyItems, SetSection, SpliceNotes}
use Rattle.doc_patch.specs.declared.changes.Change.TheVariants.{SpliceHeads, SetStyleCharacters, SetStyleParagraphs}
use Rattle.doc_patch.specs.declared.changes.Change.TheVariants.{SetBookmarks}
use Rattle.doc_patch.specs.Places.{story_text, items_at, note_number, head_number}
use Rattle.edit_ops.specs.Fresh.{section_item, plain_end, inserted_items, field_items, base_properties, row_items}
use Rattle.edit_ops.specs.Fresh.{note_items, note_reference, unit_items}
use Rattle.edit_ops.specs.Edits.{changes_of, erased, section_changes, insertion}
use Rattle.edit_ops.specs.Ranges.{IsInRange, HasText, HasRange}
use Rattle.edit_ops.specs.Codes.{HasValidCodes}
use Rattle.edit_ops.specs.Causes.{CanBeTried}
use Rattle.edit_ops.specs.EditFacts.{items_added, items_removed}
use Rattle.doc_patch.specs.Makes.{CanRemove}
use Rattle.edit_ops.proofs.TextLemmas.{few_items}
use Rattle.edit_ops.proofs.SumLemmas.{no_range, range_sum}
use Rattle.edit_ops.proofs.CanMakeLemmas.{length-inserted, length-field, length-row, length-units, can_splice_notes}
use Rattle.edit_ops.proofs.CanMakeLemmas.{can_splice_heads, unit_range}

length-note : (text : List ℕ) → length (note_items text) ≡ length text + 2
length-note text =
    let units = length-units empty text in
    let all = length-append (unit_items empty text) (plain_end ∷ []) in
    omega arith

-- ---- what changes add, and what they remove

pub record AreCountable (document : Document) (changes : List Change) : Type 0 where
  pub added : sum_by items_added changes < 2 ^ 32
  pub removed : sum_by (items_removed document) changes < 2 ^ 32
  pub there : All (CanRemove document) changes

-- a list of one change
one : (document : Document) (change : Change) → items_added change < 2 ^ 32 → items_removed document change < 2 ^ 32 →
    CanRemove document change → AreCountable document (change ∷ [])
one document change added removed there =
    let sum_in = sum_by-cons items_added change [] in
    let sum_out = sum_by-cons (items_removed document) change [] in
    record {
      added = omega arith;
      removed = omega arith;
      there = All-cons (CanRemove document) change [] there
          (All-nil (CanRemove document));
    }

put : (document : Document) (story : Story) (at : ℕ) (items : List Item) → length items < 2 ^ 32 →
    AreCountable document (insertion story at items)
put document story at items few = one document (SpliceText story at at items) few (omega arith) (omega arith)

no_texts : (count : ℕ) → sum_by length (replicate {A = List Item} count []) ≡ 0
no_texts count =
    let each = sum_by-replicate {X = List Item} length count [] in
    omega arith

erased_main : (document : Document) (from to : ℕ) → IsValidDocument document → HasRange from to document.main →
    AreCountable document (erased document Main from to)
erased_main document from to right range =
    let few = right.few in
    let ordered = range.0 in
    let within = range.1 in
    let notes = can_splice_notes document from to [] right (omega arith) (omega arith) in
    let heads = can_splice_heads document from to [] right (omega arith) (omega arith) in
    let text = SpliceText Main from to [] in
    let references = SpliceNotes (note_number document.main from) (note_number document.main to) [] in
    let blocks = SpliceHeads (head_number document.main from) (head_number document.main to) [] in
    let added_1 = sum_by-cons items_added text (references ∷ blocks ∷ []) in
    let added_2 = sum_by-cons items_added references (blocks ∷ []) in
    let added_3 = sum_by-cons items_added blocks [] in
    let removed_1 = sum_by-cons (items_removed document) text (references ∷ blocks ∷ []) in
    let removed_2 = sum_by-cons (items_removed document) references (blocks ∷ []) in
    let removed_3 = sum_by-cons (items_removed document) blocks [] in
    let some_notes = range_sum length document.notes (note_number document.main from) (note_number document.main to) in
    let some_heads = range_sum length document.heads (head_number document.main from) (head_number document.main to) in
    record {
      added = omega arith;
      removed = omega arith;
      there = All-cons (CanRemove document) text (references ∷ blocks ∷ []) (omega arith)
          (All-cons (CanRemove document) references (blocks ∷ []) (notes.ordered, notes.within)
          (All-cons (CanRemove document) blocks [] (heads.ordered, heads.within) (All-nil (CanRemove document))));
    }

record IsShortRange (from to : ℕ) : Type 0 where
  ordered : from < to
  short : to ≤ 499998

short_range : (document : Document) (story : Story) (from to : ℕ) → IsValidDocument document → HasText document story
    (HasRange from to) → IsShortRange from to
short_range document story from to right range = range_of (story_text document story) (λ text there. few_items document
    story text right there) range
  where
    range_of : (o : Option (List Item)) → ((text : List Item) → o ≡ Some text → length text ≤ 499998) →
        MatchOption o ⊥ (HasRange from to) → IsShortRange from to
    range_of None few h = absurd h
    range_of (Some text) few h =
        let short = few text refl in
        let within = h.1 in
        record { ordered = h.0; short = omega arith }

erased_from : (document : Document) (story : Story) (from to : ℕ) → IsValidDocument document → HasText document story
    (HasRange from to) → AreCountable document (erased document story from to)
erased_from document Main from to right range = erased_main document from to right range
erased_from document (NoteText k) from to right range =
    let short = short_range document (NoteText k) from to right range in
    let ordered = short.ordered in
    let few = short.short in
    one document (SpliceText (NoteText k) from to []) (omega arith) (omega arith) (omega arith)
erased_from document (HeadText k) from to right range =
    let short = short_range document (HeadText k) from to right range in
    let ordered = short.ordered in
    let few = short.short in
    one document (SpliceText (HeadText k) from to []) (omega arith) (omega arith) (omega arith)

-- a splice of no range beside a text
two : (document : Document) (first next : Change) → items_added first + items_added next < 2 ^ 32 →
    items_removed document first ≡ 0 → items_removed document next ≡ 0 → CanRemove document first → CanRemove document
    next → AreCountable document (first ∷ next ∷ [])
two document first next added removed_first removed_next there_first there_next =
    let in_1 = sum_by-cons items_added first (next ∷ []) in
    let in_2 = sum_by-cons items_added next [] in
    let out_1 = sum_by-cons (items_removed document) first (next ∷ []) in
    let out_2 = sum_by-cons (items_removed document) next [] in
    record {
      added = omega arith;
      removed = omega arith;
      there = All-cons (CanRemove document) first (next ∷ []) there_first (All-cons (CanRemove document) next []
          there_next (All-nil (CanRemove document)));
    }

note_put : (document : Document) (at : ℕ) (reference : Item) (text : List ℕ) → IsValidDocument document →
    at < length document.main → length text ≤ 4000000000 → AreCountable document (SpliceText Main at at (reference ∷
    []) ∷ SpliceNotes (note_number document.main at) (note_number document.main at) (note_items text ∷ []) ∷ [])
note_put document at reference text right within few =
    let notes = can_splice_notes document at at (note_items text ∷ []) right (omega arith) (omega arith) in
    let one = sum_by-cons length (note_items text) [] in
    let len = length-note text in
    two document (SpliceText Main at at (reference ∷ [])) (SpliceNotes (note_number document.main at) (note_number
    document.main at) (note_items text ∷ []))
    (omega arith) (omega arith) (no_range length document.notes (note_number document.main at)) (omega arith)
    (notes.ordered, notes.within)

section_put : (document : Document) (at : ℕ) (new : Bool) (set : Properties) → IsValidDocument document →
    at < length document.main → AreCountable document (section_changes document.main at new set)
section_put document at false set right within = one document (SetSection _ set) (omega arith) (omega arith) tt
section_put document at true set right within =
    let heads = can_splice_heads document at at (replicate 6 []) right (omega arith) (omega arith) in
    let none = no_texts 6 in
    two document (SpliceText Main at at (section_item document.main at set ∷ [])) (SpliceHeads (head_number
    document.main at) (head_number document.main at) (replicate 6 []))
    (omega arith) (omega arith) (no_range length document.heads (head_number document.main at)) (omega arith)
    (heads.ordered, heads.within)

pub countable : (document : Document) (command : Command) → IsSound document → CanBeTried document command →
    AreCountable document (changes_of document command)
countable document command sound tried = by_kind command (sound_is_valid document sound) tried.range tried.codes
  where
    by_kind : (command : Command) → IsValidDocument document → IsInRange document command → HasValidCodes command →
        AreCountable document (changes_of document command)
    by_kind (Insert story at text) right range codes =
        let few = codes.1 in
        let len = length-inserted (items_at document story) at text in
        put document story at (inserted_items (items_at document story) at text) (omega arith)
    by_kind (Erase story from to) right range codes = erased_from document story from to right range
    by_kind (Char story from to set) right range codes = one document (ModifyItems story from to _) (omega arith)
        (omega arith) tt
    by_kind (Plain story from to) right range codes = one document (ModifyItems story from to _) (omega arith)
        (omega arith) tt
    by_kind (Para story at set) right range codes = one document (ModifyItems story _ _ _) (omega arith) (omega arith)
        tt
    by_kind (Style story at istd) right range codes = one document (ModifyItems story _ _ _) (omega arith)
        (omega arith) tt
    by_kind (Field story at type code shown) right range codes =
        let few = codes.few in
        let len = length-field (base_properties (items_at document story) at) type code shown in
        put document story at (field_items (base_properties (items_at document story) at) type code shown) (omega arith)
    by_kind (Note at text) right range codes = note_put document at (note_reference (base_properties document.main at))
        text right range codes.1
    by_kind (Split story at) right range codes = put document story at _ (omega arith)
    by_kind (Merge story at) right range codes = erased_from document story _ _ right (unit_range document story at
        range)
    by_kind (Sect at new set) right range codes = section_put document at new set right range
    by_kind (Row story at width cells) right range codes =
        let few = codes.few in
        let units = codes.units in
        let len = length-row width cells in
        put document story at (row_items width cells) (omega arith)
    by_kind (StyleChar istd set) right range codes = one document (SetStyleCharacters istd set) (omega arith)
        (omega arith) tt
    by_kind (StylePara istd set) right range codes = one document (SetStyleParagraphs istd set) (omega arith)
        (omega arith) tt
    by_kind (Bookmark name from to) right range codes = one document (SetBookmarks _) (omega arith) (omega arith) tt
    by_kind (Unmark name) right range codes = one document (SetBookmarks _) (omega arith) (omega arith) tt
    by_kind (Save full) right range codes = record {
      added = omega arith;
      removed = omega arith;
      there = All-nil
          (CanRemove document);
    }
