-- An edit that may be tried leaves bookmarks in order and within the main text.
use Rattle.std.proofs.Common.{◌≡◌, refl, sym, subst, ℕ, ◌+◌, ◌-◌, ◌<◌, ◌≤◌, List, [], ◌∷◌, ◌++◌}
use Rattle.std.proofs.Common.{length, map, take, drop, Option, Some, None, arith, length-append, length-take}
use Rattle.std.proofs.Common.{length-drop}
use Rattle.std.specs.Prelude.{Bool, true, false, not, slice_range, MatchOption}
use Rattle.std.specs.List.{splice}
use Rattle.std.proofs.lemmas.List.{length-map, length-set}
use Rattle.doc_bits.specs.declared.places.Story.{Story}
use Rattle.doc_bits.specs.declared.places.Story.TheVariants.{Main, Note as NoteText, Head as HeadText}
use Rattle.document_bookmarks.specs.Bookmarks.{AreFormedBookmarks, IsFormedBookmark, moved_bookmarks}
use Rattle.document_bookmarks.specs.Names.{is_named}
use Rattle.document_bookmarks.proofs.Public.{moves_form, put_form, filter_form}
use Rattle.prop_map.specs.Settings.{Properties}
use Rattle.prop_map.specs.declared.modifiers.Modifier.{Modifier}
use Rattle.doc_model.specs.declared.item.Item.{Item}
use Rattle.doc_model.specs.declared.document.Document.{Document}
use Rattle.doc_model.specs.Marks.{HasFormedBookmarks, main_spliced}
use Rattle.doc_model.proofs.Public.{length-splice}
use Rattle.edit_script.specs.declared.commands.Command.{Command}
use Rattle.edit_script.specs.declared.commands.Command.TheVariants.{Insert, Erase, Char, Plain, Para, Style, Field}
use Rattle.edit_script.specs.declared.commands.Command.TheVariants.{Note, Split, Merge, Sect, Row, StyleChar}
use Rattle.edit_script.specs.declared.commands.Command.TheVariants.{StylePara, Bookmark, Unmark, Save}
use Rattle.doc_patch.specs.Changes.{map_range, put_changed, modified_item, text_changed, text_spliced}
use Rattle.doc_patch.specs.Changes.{with_section}
use Rattle.doc_patch.specs.Places.{story_text, items_at, mark_place}
use Rattle.edit_ops.specs.Bookmarks.{new_bookmark}
use Rattle.edit_ops.specs.Fresh.{base_properties, note_reference, section_item}
use Rattle.edit_ops.specs.Codes.{IsPutName, HasValidCodes}
use Rattle.edit_ops.specs.Edits.{erased, section_changes, modified_at_mark, document_after}
use Rattle.edit_ops.specs.Edits.{property_characters, clearing, property_paragraphs, naming_style}
use Rattle.doc_patch.specs.Changes.{all_changed}
use Rattle.edit_ops.specs.Ranges.{IsInRange, HasText, HasRange}
use Rattle.edit_ops.specs.Laws.{EditsKeepBookmarks}
use Rattle.edit_ops.proofs.CanMakeLemmas.{takes_text, has_place, begins, unit_range}

-- ---- lengths

-- a text of which a range is changed is as long as it was
length-map_range : {A : Type 0} (f : A → A) (xs : List A) (from to : ℕ) → from ≤ to →
    length (map_range f xs from to) ≡ length xs
length-map_range f xs from to ordered =
    let range = slice_range xs from to in
    let all = length-append (take from xs) (map f range ++ drop to xs) in
    let rest = length-append (map f range) (drop to xs) in
    let front = length-take from xs in
    let mid = length-map range f in
    let taken = length-take (to - from) (drop from xs) in
    let behind = length-drop from xs in
    let back = length-drop to xs in
    omega (arith, ordered, all, rest, front, mid, taken, behind, back)

length-put : {A : Type 0} (f : A → A) (xs : List A) (at : ℕ) (o : Option A) →
    length (put_changed xs at f o) ≡ length xs
length-put f xs at None = refl
length-put f xs at (Some x) = length-set xs at (f x)

-- ---- changes

abbrev KeepsForm : Document → Document → Type 0
KeepsForm before after = HasFormedBookmarks before → HasFormedBookmarks after

-- the bookmarks stay, and the main text stays as long as it was
same_length : (document : Document) (main : List Item) → length main ≡ length document.main →
    KeepsForm document (record document { main = main })
same_length document main same formed =
    subst (λ (n : ℕ). AreFormedBookmarks n document.bookmarks) (sym same) formed

main_form : (document : Document) (from to : ℕ) (fresh : List Item) → from ≤ to → to ≤ length document.main →
    KeepsForm document (main_spliced from to fresh document)
main_form document from to fresh ordered within formed =
    let long : length document.main - (to - from) + length fresh ≡ length (splice document.main from to fresh) =
    omega (arith, ordered, within, length-splice document.main fresh from to ordered within) in
    subst (λ (n : ℕ). AreFormedBookmarks n (moved_bookmarks from to (length fresh) document.bookmarks)) long
    (moves_form from to (length fresh) (length document.main) document.bookmarks ordered within formed)

-- items put into a text
put_keeps : (document : Document) (story : Story) (at : ℕ) (fresh : List Item) →
    HasText document story (λ text. at ≤ length text) → KeepsForm document (text_spliced story at at fresh document)
put_keeps document Main at fresh within formed = main_form document at at fresh (omega arith) within formed
put_keeps document (NoteText k) at fresh within formed = formed
put_keeps document (HeadText k) at fresh within formed = formed

-- items of a range modified
modify_keeps : (document : Document) (story : Story) (from to : ℕ) (modifier : Modifier) → from ≤ to →
    KeepsForm document (text_changed (λ text. map_range (modified_item modifier) text from to) story document)
modify_keeps document Main from to modifier ordered formed =
    same_length document (map_range (modified_item modifier) document.main from to)
    (length-map_range (modified_item modifier) document.main from to ordered) formed
modify_keeps document (NoteText k) from to modifier ordered formed = formed
modify_keeps document (HeadText k) from to modifier ordered formed = formed

mark_keeps : (document : Document) (story : Story) (at : ℕ) (modifier : Modifier) →
    KeepsForm document (all_changed (modified_at_mark document story at modifier) document)
mark_keeps document story at modifier formed =
    let mark = mark_place (items_at document story) at in
    modify_keeps document story mark (mark + 1) modifier (omega arith) formed

range_ordered : (o : Option (List Item)) (from to : ℕ) → MatchOption o ⊥ (HasRange from to) → from ≤ to
range_ordered None from to range = absurd range
range_ordered (Some text) from to range = let less = range.0 in omega (arith, less)

erase_keeps : (document : Document) (story : Story) (from to : ℕ) → HasText document story (HasRange from to) →
    KeepsForm document (all_changed (erased document story from to) document)
erase_keeps document Main from to range formed =
    let less = range.0 in
    main_form document from to [] (omega (arith, less)) range.1 formed
erase_keeps document (NoteText k) from to range formed = formed
erase_keeps document (HeadText k) from to range formed = formed

section_keeps : (document : Document) (at : ℕ) (new : Bool) (set : Properties) → at < length document.main →
    KeepsForm document (all_changed (section_changes document.main at new set) document)
section_keeps document at false set within formed =
    same_length document _ (length-put (with_section set) document.main _ _) formed
section_keeps document at true set within formed =
    main_form document at at (section_item document.main at set ∷ []) (omega arith) (omega (arith, within)) formed

-- ---- bookmarks put and taken away

put_name_fits : (len : ℕ) (name : List ℕ) (from to : ℕ) → from ≤ to → to ≤ len → IsPutName name →
    IsFormedBookmark len (new_bookmark name from to)
put_name_fits len name from to ordered within right =
    let some = right.some in
    let few = right.few in
    record { ordered = ordered; within = within; named = omega (arith, some); short = omega (arith, few) }

pub keeps_bookmarks : EditsKeepBookmarks
keeps_bookmarks document command formed tried = by_kind command tried.range tried.codes
  where
    by_kind : (command : Command) → IsInRange document command → HasValidCodes command →
        HasFormedBookmarks (document_after document command)
    by_kind (Insert story at text) range codes =
        put_keeps document story at _ (takes_text document story at range) formed
    by_kind (Erase story from to) range codes = erase_keeps document story from to range formed
    by_kind (Char story from to set) range codes =
        modify_keeps document story from to (property_characters set)
        (range_ordered (story_text document story) from to range) formed
    by_kind (Plain story from to) range codes =
        modify_keeps document story from to clearing (range_ordered (story_text document story) from to range) formed
    by_kind (Para story at set) range codes = mark_keeps document story at (property_paragraphs set) formed
    by_kind (Style story at istd) range codes = mark_keeps document story at (naming_style istd) formed
    by_kind (Field story at type code shown) range codes =
        put_keeps document story at _ (has_place document story at range) formed
    by_kind (Note at text) range codes =
        main_form document at at (note_reference (base_properties document.main at) ∷ []) (omega arith)
        (omega (arith, range)) formed
    by_kind (Split story at) range codes = put_keeps document story at _ (has_place document story at range) formed
    by_kind (Merge story at) range codes =
        erase_keeps document story _ _ (unit_range document story at range) formed
    by_kind (Sect at new set) range codes = section_keeps document at new set range formed
    by_kind (Row story at width cells) range codes =
        put_keeps document story at _ (begins document story at range) formed
    by_kind (StyleChar istd set) range codes = formed
    by_kind (StylePara istd set) range codes = formed
    by_kind (Bookmark name from to) range codes =
        put_form (length document.main) (new_bookmark name from to) document.bookmarks
        (put_name_fits (length document.main) name from to range.0 range.1 codes) formed
    by_kind (Unmark name) range codes =
        filter_form (length document.main) (λ b. not (is_named name b)) document.bookmarks formed
    by_kind (Save full) range codes = formed
