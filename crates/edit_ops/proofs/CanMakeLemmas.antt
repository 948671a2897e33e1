-- The changes of an edit that may be tried can be made, one after another.
use Rattle.std.proofs.Common.{◌≡◌, refl, ℕ, ◌+◌, ◌<◌, ◌≤◌, inl, inr, List, [], ◌∷◌, ◌++◌, length, Option}
use Rattle.std.proofs.Common.{Some, None, arith, length-append, cond, ◌==◌}
use Rattle.std.specs.Prelude.{Bool, true, false, MatchOption, slice_get, replicate, is_some}
use Rattle.std.specs.Option.{unwrap_or}
use Rattle.text_codes.specs.Paragraph.{paragraph_mark, cell_mark}
use Rattle.std.specs.List.{sum_by, flat_map}
use Rattle.std.proofs.lemmas.List.Elements.{All-weaker}
use Rattle.std.proofs.lemmas.List.{length-map}
use Rattle.std.specs.FinMap.{empty}
use Rattle.std.proofs.lemmas.List.Sums.{count_by-le-length, sum_by-cons}
use Rattle.doc_bits.specs.declared.places.Story.{Story}
use Rattle.doc_bits.specs.declared.places.Story.TheVariants.{Main, Note as NoteText, Head as HeadText}
use Rattle.prop_map.specs.Settings.{Properties}
use Rattle.prop_map.specs.declared.modifiers.Modifier.{Modifier}
use Rattle.prop_map.specs.Formed.{IsPropertyMap, character_groups, paragraph_groups, section_groups}
use Rattle.prop_map.specs.Modifiers.{IsFormedModifier}
use Rattle.doc_model.specs.declared.item.Item.{Item}
use Rattle.doc_model.specs.declared.document.Document.{Document}
use Rattle.plain_doc.specs.Sound.{IsSound}
use Rattle.plain_doc.specs.RightDocument.{IsValidText, IsValidDocument}
use Rattle.plain_doc.proofs.Public.{sound_is_valid}
use Rattle.document_bookmarks.specs.declared.bookmark_order.Bookmark.{Bookmark as BookmarkOf}
use Rattle.document_bookmarks.specs.Bookmarks.{AreFormedBookmarks, IsFormedBookmark}
use Rattle.edit_script.specs.declared.commands.Command.{Command}
use Rattle.edit_script.specs.declared.commands.Command.TheVariants.{Insert, Erase, Char, Plain, Para, Style, Field}
use Rattle.edit_script.specs.declared.commands.Command.TheVariants.{Note, Split, Merge, Sect, Row, StyleChar}
use Rattle.edit_script.specs.declared.commands.Command.TheVariants.{StylePara, Bookmark, Unmark, Save}
use Rattle.doc_patch.specs.declared.changes.Change.TheVariants.{ModifyItems}
use Rattle.doc_patch.specs.Places.{story_text, items_at, mark_place, note_number, head_number}
use Rattle.edit_ops.specs.Fresh.{unit_item, unit_items, inserted_items, field_items, field_mark, base_properties}
use Rattle.edit_ops.specs.Fresh.{cell_items, cell_properties, row_items, row_properties, mark_item, mark_with}
use Rattle.edit_ops.specs.Fresh.{plain_end}
use Rattle.edit_ops.specs.Edits.{changes_of, erased, section_changes, insertion, property_characters}
use Rattle.edit_ops.specs.Edits.{property_paragraphs}
use Rattle.edit_ops.specs.Edits.{clearing, naming_style}
use Rattle.edit_ops.specs.Ranges.{IsInRange, HasText, HasPlace, HasRange, TakesText, EndsWithMark, BeginsParagraph}
use Rattle.edit_ops.specs.Codes.{HasValidCodes}
use Rattle.edit_ops.specs.Causes.{CanBeTried}
use Rattle.doc_patch.specs.Makes.{CanSplice, CanMakeAll, CanFollow, EndWithin}
use Rattle.doc_patch.proofs.Public.{text_weaker}
use Rattle.edit_ops.proofs.TextLemmas.{right_text, part_of, few_items, mark_within, section_within}
use Rattle.edit_ops.proofs.TextLemmas.{unit_within, count_upto, count_within}
use Rattle.prop_map.proofs.Public.{IsPropertyMap-empty}

-- ---- properties

property_formed : (set : Properties) → IsPropertyMap character_groups set → IsFormedModifier (property_characters set)
property_formed set formed = record { chp = formed; pap = IsPropertyMap-empty paragraph_groups }

property_marks_formed : (set : Properties) → IsPropertyMap paragraph_groups set → IsFormedModifier (property_paragraphs
    set)
property_marks_formed set formed = record { chp = IsPropertyMap-empty character_groups; pap = formed }

clearing_formed : IsFormedModifier clearing
clearing_formed = record { chp = IsPropertyMap-empty character_groups; pap = IsPropertyMap-empty paragraph_groups }

naming_formed : (istd : ℕ) → IsFormedModifier (naming_style istd)
naming_formed istd = record { chp = IsPropertyMap-empty character_groups; pap = IsPropertyMap-empty paragraph_groups }

-- ---- how many items are put

pub length-units : (chp : Properties) (units : List ℕ) → length (unit_items chp units) ≡ length units
length-units chp units = length-map units (unit_item chp)

either_length : {A : Type 0} (b : Bool) (xs ys : List A) (n : ℕ) → length xs ≤ n → length ys ≤ n →
    length (cond b xs ys) ≤ n
either_length true xs ys n one other = one
either_length false xs ys n one other = other

pub length-inserted : (text : List Item) (at : ℕ) (units : List ℕ) → length (inserted_items text at units) ≤ length
    units + 2
length-inserted text at units =
    let front = length-units empty units in
    let all : length (unit_items empty units ++ plain_end ∷ plain_end ∷ []) ≡ length (unit_items empty units) + 2 =
    length-append (unit_items empty units) (plain_end ∷ plain_end ∷ []) in
    let base = length-units (base_properties text at) units in
    either_length (length text == 0) (unit_items empty units ++ plain_end ∷ plain_end ∷ []) (unit_items (base_properties
    text at) units) (length units + 2) (omega arith) (omega arith)

length-cells : (cells : List (List ℕ)) → length (flat_map cell_items cells) ≡ sum_by length cells + length cells
length-cells [] = refl
length-cells (cell ∷ more) =
    let units = length-units empty cell in
    let one = length-append (unit_items empty cell) (mark_item empty cell_mark (mark_with cell_properties) ∷ []) in
    let joined = length-append (cell_items cell) (flat_map cell_items more) in
    let rest = length-cells more in
    let sum = sum_by-cons length cell more in
    omega arith

pub length-row : (width : ℕ) (cells : List (List ℕ)) → length (row_items width cells) ≡ sum_by length cells + length
    cells + 1
length-row width cells =
    let all = length-append (flat_map cell_items cells) (mark_item empty cell_mark (mark_with (row_properties
    (length cells) width)) ∷ []) in
    let front = length-cells cells in
    omega arith

pub length-field : (base : Properties) (type : ℕ) (code shown : List ℕ) → length (field_items base type code shown) ≡
    length code + length shown + 3
length-field base type code shown =
    let inner = length-append (unit_items base shown) (field_mark base 0x15 0x80 ∷ []) in
    let outer = length-append (unit_items base code) (field_mark base 0x14 0xFF ∷ unit_items base shown ++ field_mark
    base 0x15 0x80 ∷ []) in
    let units = length-units base code in
    let more = length-units base shown in
    omega arith

-- ---- each kind

-- formed bookmarks end within their text
end_within : (len : ℕ) (bookmarks : List BookmarkOf) → AreFormedBookmarks len bookmarks → EndWithin len bookmarks
end_within len bookmarks formed = record {
  starts =
      All-weaker (IsFormedBookmark len) (λ b. b.from ≤ len)
      (λ b fits. omega (arith, fits.ordered, fits.within)) bookmarks formed.each;
  ends = All-weaker (IsFormedBookmark len) (λ b. b.to ≤ len) (λ b fits. fits.within) bookmarks formed.each;
}

can_follow : (document : Document) (story : Story) → IsValidDocument document → CanFollow document story
can_follow document Main right = end_within (length document.main) document.bookmarks right.bookmarks
can_follow document (NoteText k) right = tt
can_follow document (HeadText k) right = tt

can_put : (document : Document) (story : Story) (at : ℕ) (items : List Item) → IsValidDocument document →
    HasText document story (λ text. at ≤ length text) → length items ≤ 4000000100 → CanMakeAll (insertion story at
    items)
    document
can_put document story at items right within few = (
  (
    text_weaker (story_text document story) _ _ within (λ text there inside.
        let short = few_items document story text right there in
        record { ordered = omega arith; within = inside; few = omega arith }),
    can_follow document story right,
  ),
  tt,
)

pub has_place : (document : Document) (story : Story) (at : ℕ) → HasText document story (HasPlace at) → HasText document
    story (λ text. at ≤ length text)
has_place document story at there = text_weaker (story_text document story) _ _ there (λ text is within. omega (
  arith,
  within,
))

takes : (story : Story) (at : ℕ) (text : List Item) → TakesText story at text → at ≤ length text
takes Main at text within = omega (arith, within)
takes (NoteText k) at text within = omega (arith, within)
takes (HeadText k) at text within = elim within [
  | inl inside ↦ omega (arith, inside)
  | inr empty ↦ let z = empty.0 in
      omega (arith, z)
]

pub takes_text : (document : Document) (story : Story) (at : ℕ) → HasText document story (TakesText story at) →
    HasText document story (λ text. at ≤ length text)
takes_text document story at there = text_weaker (story_text document story) _ _ there (λ text is h. takes story at text
    h)

pub begins : (document : Document) (story : Story) (at : ℕ) → HasText document story (BeginsParagraph at) →
    HasText document story (λ text. at ≤ length text)
begins document story at there = text_weaker (story_text document story) _ _ there (λ text is h. let within = h.0 in
    omega arith)

can_modify : (document : Document) (story : Story) (from to : ℕ) (modifier : Modifier) → HasText document story
    (HasRange from to) → IsFormedModifier modifier → CanMakeAll (ModifyItems story from to modifier ∷ []) document
can_modify document story from to modifier range formed = ((range, formed), tt)

mark_range : (document : Document) (story : Story) (at : ℕ) → IsValidDocument document → HasText document story
    (HasPlace at) → HasText document story (HasRange (mark_place (items_at document story) at)
    (mark_place (items_at document story) at + 1))
mark_range document story at right there =
    range_of (story_text document story) (λ text is. right_text document story text right is) there
  where
    range_of : (o : Option (List Item)) → ((text : List Item) → o ≡ Some text → IsValidText document.sheet
        (part_of story) text) → MatchOption o ⊥ (HasPlace at) → MatchOption o ⊥ (HasRange (mark_place (unwrap_or o [])
        at) (mark_place (unwrap_or o []) at + 1))
    range_of None rights h = h
    range_of (Some text) rights h =
        let within = mark_within document.sheet (part_of story) text at (rights text refl) h in
        (omega arith, omega (arith, within))

pub unit_range : (document : Document) (story : Story) (at : ℕ) → HasText document story (EndsWithMark at) →
    HasText document story (HasRange (mark_place (items_at document story) at) (mark_place (items_at document story)
    at + 1))
unit_range document story at there = range_of (story_text document story) there
  where
    range_of : (o : Option (List Item)) → MatchOption o ⊥ (EndsWithMark at) → MatchOption o ⊥
        (HasRange (mark_place (unwrap_or o []) at) (mark_place (unwrap_or o []) at + 1))
    range_of None h = h
    range_of (Some text) h =
        let within = unit_within text at paragraph_mark h.1 in
        (omega arith, omega (arith, within))

pub few_main : (document : Document) → IsValidDocument document → length document.main ≤ 499998
few_main document right = few_items document Main document.main right refl

record AreFew (document : Document) : Type 0 where
  main : length document.main ≤ 499998
  notes : length document.notes ≤ 499998
  heads : length document.heads ≤ 3000000

are_few : (document : Document) → IsValidDocument document → AreFew document
are_few document right =
    let main = few_main document right in
    let notes = right.notes in
    let heads = right.heads in
    let references = count_by-le-length (λ item. is_some item.note) document.main in
    let sections = count_by-le-length (λ item. is_some item.sect) document.main in
    record { main = main; notes = omega arith; heads = omega arith }

pub can_splice_notes : (document : Document) (from to : ℕ) (fresh : List (List Item)) → IsValidDocument document →
    from ≤ to → length fresh ≤ 6 → CanSplice (note_number document.main from) (note_number document.main to) fresh
    document.notes
can_splice_notes document from to fresh right ordered few =
    let few_there = (are_few document right).notes in
    let all = right.notes in
    let upto = count_upto (λ item. is_some item.note) document.main from to ordered in
    let within = count_within (λ item. is_some item.note) document.main to in
    record { ordered = upto; within = omega arith; few = omega arith }

pub can_splice_heads : (document : Document) (from to : ℕ) (fresh : List (List Item)) → IsValidDocument document →
    from ≤ to → length fresh ≤ 6 → CanSplice (head_number document.main from) (head_number document.main to) fresh
    document.heads
can_splice_heads document from to fresh right ordered few =
    let few_there = (are_few document right).heads in
    let all = right.heads in
    let upto = count_upto (λ item. is_some item.sect) document.main from to ordered in
    let within = count_within (λ item. is_some item.sect) document.main to in
    record { ordered = omega arith; within = omega arith; few = omega arith }

can_erase : (document : Document) (story : Story) (from to : ℕ) → IsValidDocument document → HasText document story
    (HasRange from to) → CanMakeAll (erased document story from to) document
can_erase document Main from to right range =
    let few = few_main document right in
    let ordered = range.0 in
    let within = range.1 in (
      (record { ordered = omega arith; within = within; few = omega arith }, can_follow document Main right),
      (
        can_splice_notes document from to [] right (omega arith) (omega arith),
        (can_splice_heads document from to [] right (omega arith) (omega arith), tt),
      ),
    )
can_erase document (NoteText k) from to right range = (
  (
    text_weaker (slice_get document.notes k) _ _ range (λ text there inside.
        let short = few_items document (NoteText k) text right there in
        let ordered = inside.0 in
        record { ordered = omega arith; within = inside.1; few = omega arith }),
    tt,
  ),
  tt,
)
can_erase document (HeadText k) from to right range = (
  (
    text_weaker (slice_get document.heads k) _ _ range (λ text there inside.
        let short = few_items document (HeadText k) text right there in
        let ordered = inside.0 in
        record { ordered = omega arith; within = inside.1; few = omega arith }),
    tt,
  ),
  tt,
)

can_section : (document : Document) (at : ℕ) (new : Bool) (set : Properties) → IsValidDocument document →
    at < length document.main → IsPropertyMap section_groups set → CanMakeAll (section_changes document.main at new
    set) document
can_section document at false set right within formed = ((section_within document at right within, formed), tt)
can_section document at true set right within formed =
    let few = few_main document right in (
      (record { ordered = omega arith; within = omega arith; few = omega arith }, can_follow document Main right),
      (can_splice_heads document at at (replicate 6 []) right (omega arith) (omega arith), tt),
    )

pub can_make : (document : Document) (command : Command) → IsSound document → CanBeTried document command →
    CanMakeAll (changes_of document command) document
can_make document command sound tried = by_kind command (sound_is_valid document sound) tried.range tried.codes
  where
    by_kind : (command : Command) → IsValidDocument document → IsInRange document command → HasValidCodes command →
        CanMakeAll (changes_of document command) document
    by_kind (Insert story at text) right range codes =
        let few = codes.1 in
        let put = length-inserted (items_at document story) at text in
        can_put document story at (inserted_items (items_at document story) at text) right (takes_text document story
        at range) (omega arith)
    by_kind (Erase story from to) right range codes = can_erase document story from to right range
    by_kind (Char story from to set) right range codes = can_modify document story from to (property_characters set)
        range (property_formed set codes)
    by_kind (Plain story from to) right range codes = can_modify document story from to clearing range clearing_formed
    by_kind (Para story at set) right range codes = can_modify document story _ _ (property_paragraphs set)
        (mark_range document story at right range) (property_marks_formed set codes)
    by_kind (Style story at istd) right range codes = can_modify document story _ _ (naming_style istd)
        (mark_range document story at right range) (naming_formed istd)
    by_kind (Field story at type code shown) right range codes =
        let few = codes.few in
        let put = length-field (base_properties (items_at document story) at) type code shown in
        can_put document story at _ right (has_place document story at range) (omega arith)
    by_kind (Note at text) right range codes =
        let few = few_main document right in
        let within = range in (
          (record { ordered = omega arith; within = omega arith; few = omega arith }, can_follow document Main right),
          (can_splice_notes document at at _ right (omega arith) (omega arith), tt),
        )
    by_kind (Split story at) right range codes = can_put document story at _ right (has_place document story at range)
        (omega arith)
    by_kind (Merge story at) right range codes = can_erase document story _ _ right (unit_range document story at range)
    by_kind (Sect at new set) right range codes = can_section document at new set right range codes
    by_kind (Row story at width cells) right range codes =
        let few = codes.few in
        let units = codes.units in
        let put = length-row width cells in
        can_put document story at _ right (begins document story at range) (omega arith)
    by_kind (StyleChar istd set) right range codes = ((range, codes), tt)
    by_kind (StylePara istd set) right range codes = ((range, codes), tt)
    by_kind (Bookmark name from to) right range codes = (tt, tt)
    by_kind (Unmark name) right range codes = (tt, tt)
    by_kind (Save full) right range codes = tt
