-- What the changes of a command add, by the command alone.
use Rattle.std.specs.Prelude.{ℕ, List, ◌==◌, if◌then◌else◌}
use Rattle.std.specs.List.{flat_map, sum_by}
use Rattle.std.specs.FinMap.{empty}
use Rattle.std.proofs.Common.{◌≡◌, ◌∙◌, ◌∷◌, ◌++◌, ◌+◌, ◌≤◌, [], refl, ap, Bool, true, false}
use Rattle.std.proofs.Common.{length, replicate, arith, All}
use Rattle.std.proofs.lemmas.List.Elements.{All-cons, All-nil}
use Rattle.doc_bits.specs.declared.places.Story.{Story}
use Rattle.doc_bits.specs.declared.places.Story.TheVariants.{Main, Note as NoteText, Head as HeadText}
use Rattle.text_codes.specs.Paragraph.{cell_mark}
use Rattle.prop_map.specs.Settings.{Properties}
use Rattle.prop_map.specs.Modifiers.{no_modifier, printed_modifier}
use Rattle.prop_map.specs.Printing.{printed_list}
use Rattle.prop_map.proofs.Public.{entries-empty, length-style, length-clear, modifier_parts}
use Rattle.doc_model.specs.declared.item.Item.{Item}
use Rattle.doc_model.specs.declared.document.Document.{Document}
use Rattle.edit_script.specs.declared.commands.Command.{Command}
use Rattle.edit_script.specs.declared.commands.Command.TheVariants.{Insert, Erase, Char, Plain, Para, Style, Field}
use Rattle.edit_script.specs.declared.commands.Command.TheVariants.{Note, Split, Merge, Sect, Row, StyleChar}
use Rattle.edit_script.specs.declared.commands.Command.TheVariants.{StylePara, Bookmark, Unmark, Save}
use Rattle.doc_patch.specs.declared.changes.Change.{Change}
use Rattle.doc_patch.specs.declared.changes.Change.TheVariants.{SpliceText, SetSection, SpliceNotes, SpliceHeads}
use Rattle.doc_patch.specs.declared.changes.Change.TheVariants.{SetStyleCharacters, SetStyleParagraphs}
use Rattle.doc_patch.specs.declared.changes.Change.TheVariants.{SetBookmarks}
use Rattle.doc_patch.specs.Places.{items_at, mark_place, section_place, note_number, head_number}
use Rattle.edit_ops.specs.Fresh.{unit_items, mark_item, mark_with, plain_end, cell_items, row_items, row_properties}
use Rattle.edit_ops.specs.Fresh.{cell_properties, field_items, field_mark, base_properties, note_items, note_reference}
use Rattle.edit_ops.specs.Fresh.{split_item, section_item, inserted_items}
use Rattle.edit_ops.specs.Bookmarks.{new_bookmark, with_bookmark, without_bookmark}
use Rattle.edit_ops.specs.Edits.{erased, section_changes, changes_of, property_characters, property_paragraphs}
use Rattle.edit_ops.specs.Edits.{clearing, naming_style}
use Rattle.edit_ops.specs.Codes.{HasValidCodes}
use Rattle.edit_ops.specs.Runs.{reckoned_runs, most_runs_of_section}
use Rattle.session_text.specs.SessionText.{section_properties}
use Rattle.session_text.specs.EditSteps.{ActsOnNone, growth_of, sections_put}
use Rattle.fast_save.specs.Ledgers.{is_formatting, modifier_growth, sections_set}
use Rattle.session_text.proofs.Public.{properties-append}

-- ---- properties of sections

in_units : (chp : Properties) (units : List ℕ) → section_properties (unit_items chp units) ≡ []
in_units chp [] = refl
in_units chp (unit ∷ units) = in_units chp units

behind_units : (chp : Properties) (units : List ℕ) (rest : List Item) → section_properties rest ≡ [] →
    section_properties (unit_items chp units ++ rest) ≡ []
behind_units chp units rest none =
    properties-append (unit_items chp units) rest ∙ (ap (λ (s : List Properties). s ++ section_properties rest)
    (in_units chp units) ∙ none)

in_inserted : (none : Bool) (base : Properties) (units : List ℕ) →
    section_properties (if none then unit_items empty units ++ plain_end ∷ plain_end ∷ [] else unit_items base units) ≡
    []
in_inserted true base units = behind_units empty units (plain_end ∷ plain_end ∷ []) refl
in_inserted false base units = in_units base units

in_field : (base : Properties) (type : ℕ) (code shown : List ℕ) → section_properties (field_items base type code shown)
    ≡ []
in_field base type code shown =
    let end = field_mark base 0x15 0x80 ∷ [] in
    let behind = unit_items base shown ++ end in
    behind_units base code (field_mark base 0x14 0xFF ∷ behind) (behind_units base shown end refl)

in_cells : (cells : List (List ℕ)) → section_properties (flat_map cell_items cells) ≡ []
in_cells [] = refl
in_cells (cell ∷ cells) =
    properties-append (cell_items cell) (flat_map cell_items cells)
    ∙ (ap (λ (s : List Properties). s ++ section_properties (flat_map cell_items cells)) (behind_units empty cell
    (mark_item empty cell_mark (mark_with cell_properties) ∷ []) refl)
    ∙ in_cells cells)

in_row : (width : ℕ) (cells : List (List ℕ)) → section_properties (row_items width cells) ≡ []
in_row width cells =
    let end = mark_item empty cell_mark (mark_with (row_properties (length cells) width)) in
    properties-append (flat_map cell_items cells) (end ∷ [])
    ∙ ap (λ (s : List Properties). s ++ section_properties (end ∷ [])) (in_cells cells)

none_in : (items : List Item) → section_properties items ≡ [] → length (section_properties items) ≤ 0
none_in items none = omega (arith, ap length none)

erased_sections : (document : Document) (story : Story) (from to : ℕ) → sum_by sections_put (erased document story
    from to) ≤ 0
erased_sections document Main from to = omega arith
erased_sections document (NoteText number) from to = omega arith
erased_sections document (HeadText number) from to = omega arith

set_sections : (main : List Item) (at : ℕ) (new : Bool) (set : Properties) →
    sum_by sections_put (section_changes main at new set) ≤ 1
set_sections main at false set = omega arith
set_sections main at true set = omega arith

pub sections_few : (document : Document) (command : Command) →
    sum_by sections_put (changes_of document command) ≤ sections_set command
sections_few document (Insert story at text) =
    let items = items_at document story in
    let none = none_in (inserted_items items at text) (in_inserted (length items == 0) (base_properties items at) text)
    in
    omega (arith, none)
sections_few document (Erase story from to) = erased_sections document story from to
sections_few document (Char story from to set) = omega arith
sections_few document (Plain story from to) = omega arith
sections_few document (Para story at set) = omega arith
sections_few document (Style story at istd) = omega arith
sections_few document (Field story at type code shown) =
    let base = base_properties (items_at document story) at in
    let none = none_in (field_items base type code shown) (in_field base type code shown) in
    omega (arith, none)
sections_few document (Note at text) = omega arith
sections_few document (Split story at) = omega arith
sections_few document (Merge story at) = erased_sections document story _ _
sections_few document (Sect at new set) = set_sections document.main at new set
sections_few document (Row story at width cells) =
    let none = none_in (row_items width cells) (in_row width cells) in
    omega (arith, none)
sections_few document (StyleChar istd set) = omega arith
sections_few document (StylePara istd set) = omega arith
sections_few document (Bookmark name from to) = omega arith
sections_few document (Unmark name) = omega arith
sections_few document (Save full) = omega arith

-- ---- printed modifiers

none_printed : length (printed_list no_modifier.chp) ≡ 0
none_printed = rw entries-empty refl

characters_printed : (set : Properties) → length (printed_modifier (property_characters set)) ≡ length (printed_list
    set)
characters_printed set = omega (arith, modifier_parts (property_characters set), none_printed)

paragraphs_printed : (set : Properties) → length (printed_modifier (property_paragraphs set)) ≡ length (printed_list
    set)
paragraphs_printed set = omega (arith, modifier_parts (property_paragraphs set), none_printed)

clear_printed : length (printed_modifier clearing) ≡ 3
clear_printed = omega (arith, modifier_parts clearing, none_printed, length-clear)

style_printed : (istd : ℕ) → length (printed_modifier (naming_style istd)) ≡ 4
style_printed istd = omega (arith, modifier_parts (naming_style istd), none_printed, length-style istd)

erased_growth : (document : Document) (story : Story) (from to : ℕ) → sum_by growth_of (erased document story from to)
    ≤ 0
erased_growth document Main from to = omega arith
erased_growth document (NoteText number) from to = omega arith
erased_growth document (HeadText number) from to = omega arith

section_growth : (main : List Item) (at : ℕ) (new : Bool) (set : Properties) →
    sum_by growth_of (section_changes main at new set) ≤ 0
section_growth main at false set = omega arith
section_growth main at true set = omega arith

pub growth_few : (document : Document) (command : Command) →
    sum_by growth_of (changes_of document command) ≤ modifier_growth command
growth_few document (Insert story at text) = omega arith
growth_few document (Erase story from to) = erased_growth document story from to
growth_few document (Char story from to set) = omega (arith, characters_printed set)
growth_few document (Plain story from to) = omega (arith, clear_printed)
growth_few document (Para story at set) = omega (arith, paragraphs_printed set)
growth_few document (Style story at istd) = omega (arith, style_printed istd)
growth_few document (Field story at type code shown) = omega arith
growth_few document (Note at text) = omega arith
growth_few document (Split story at) = omega arith
growth_few document (Merge story at) = erased_growth document story _ _
growth_few document (Sect at new set) = section_growth document.main at new set
growth_few document (Row story at width cells) = omega arith
growth_few document (StyleChar istd set) = omega arith
growth_few document (StylePara istd set) = omega arith
growth_few document (Bookmark name from to) = omega arith
growth_few document (Unmark name) = omega arith
growth_few document (Save full) = omega arith

-- ---- which commands compose no modifiers

one_acts : (change : Change) → ActsOnNone change → All ActsOnNone (change ∷ [])
one_acts change none = All-cons ActsOnNone change [] none (All-nil ActsOnNone)

two_act : (one other : Change) → ActsOnNone one → ActsOnNone other → All ActsOnNone (one ∷ other ∷ [])
two_act one other none no_other = All-cons ActsOnNone one (other ∷ []) none (one_acts other no_other)

erased_acts : (document : Document) (story : Story) (from to : ℕ) → All ActsOnNone (erased document story from to)
erased_acts document Main from to =
    let notes = SpliceNotes (note_number document.main from) (note_number document.main to) [] in
    let heads = SpliceHeads (head_number document.main from) (head_number document.main to) [] in
    All-cons ActsOnNone (SpliceText Main from to []) (notes ∷ heads ∷ []) tt (two_act notes heads tt tt)
erased_acts document (NoteText number) from to = one_acts (SpliceText (NoteText number) from to []) tt
erased_acts document (HeadText number) from to = one_acts (SpliceText (HeadText number) from to []) tt

section_acts : (main : List Item) (at : ℕ) (new : Bool) (set : Properties) → All ActsOnNone (section_changes main at new
    set)
section_acts main at false set = one_acts (SetSection (section_place main at) set) tt
section_acts main at true set =
    two_act (SpliceText Main at at (section_item main at set ∷ []))
    (SpliceHeads (head_number main at) (head_number main at) (replicate 6 [])) tt tt

note_acts : (main : List Item) (notes at : ℕ) (text : List ℕ) →
    All ActsOnNone
    (SpliceText Main at at (note_reference (base_properties main at) ∷ []) ∷ SpliceNotes notes notes (note_items text ∷
    []) ∷ [])
note_acts main notes at text =
    two_act (SpliceText Main at at (note_reference (base_properties main at) ∷ []))
    (SpliceNotes notes notes (note_items text ∷ [])) tt tt

put_acts : (story : Story) (at : ℕ) (items : List Item) → All ActsOnNone (SpliceText story at at items ∷ [])
put_acts story at items = one_acts (SpliceText story at at items) tt

pub others_act_on_none : (document : Document) (command : Command) → is_formatting command ≡ false →
    All ActsOnNone (changes_of document command)
others_act_on_none document (Insert story at text) other =
    put_acts story at (inserted_items (items_at document story) at text)
others_act_on_none document (Erase story from to) other = erased_acts document story from to
others_act_on_none document (Char story from to set) other = absurd (cc other)
others_act_on_none document (Plain story from to) other = absurd (cc other)
others_act_on_none document (Para story at set) other = absurd (cc other)
others_act_on_none document (Style story at istd) other = absurd (cc other)
others_act_on_none document (Field story at type code shown) other =
    put_acts story at (field_items (base_properties (items_at document story) at) type code shown)
others_act_on_none document (Note at text) other = note_acts document.main (note_number document.main at) at text
others_act_on_none document (Split story at) other = put_acts story at (split_item (items_at document story) at ∷ [])
others_act_on_none document (Merge story at) other =
    let mark = mark_place (items_at document story) at in erased_acts document story mark (mark + 1)
others_act_on_none document (Sect at new set) other = section_acts document.main at new set
others_act_on_none document (Row story at width cells) other = put_acts story at (row_items width cells)
others_act_on_none document (StyleChar istd set) other = one_acts (SetStyleCharacters istd set) tt
others_act_on_none document (StylePara istd set) other = one_acts (SetStyleParagraphs istd set) tt
others_act_on_none document (Bookmark name from to) other =
    one_acts (SetBookmarks (with_bookmark (new_bookmark name from to) document.bookmarks)) tt
others_act_on_none document (Unmark name) other =
    one_acts (SetBookmarks (without_bookmark name document.bookmarks)) tt
others_act_on_none document (Save full) other = All-nil ActsOnNone

-- ---- runs that are reckoned

section_runs : (new : Bool) → most_runs_of_section new ≤ 65
section_runs true = omega arith
section_runs false = omega arith

pub few_reckoned : (command : Command) → HasValidCodes command → reckoned_runs command ≤ 65
few_reckoned (Insert story at text) right = omega arith
few_reckoned (Erase story from to) right = omega arith
few_reckoned (Char story from to set) right = omega arith
few_reckoned (Plain story from to) right = omega arith
few_reckoned (Para story at set) right = omega arith
few_reckoned (Style story at istd) right = omega arith
few_reckoned (Field story at type code shown) right = omega arith
few_reckoned (Note at text) right = omega arith
few_reckoned (Split story at) right = omega arith
few_reckoned (Merge story at) right = omega arith
few_reckoned (Sect at new set) right = section_runs new
few_reckoned (Row story at width cells) right = let few = right.few in omega (arith, few)
few_reckoned (StyleChar istd set) right = omega arith
few_reckoned (StylePara istd set) right = omega arith
few_reckoned (Bookmark name from to) right = omega arith
few_reckoned (Unmark name) right = omega arith
few_reckoned (Save full) right = omega arith

pub few_sections : (command : Command) → sections_set command ≤ 1
few_sections (Insert story at text) = omega arith
few_sections (Erase story from to) = omega arith
few_sections (Char story from to set) = omega arith
few_sections (Plain story from to) = omega arith
few_sections (Para story at set) = omega arith
few_sections (Style story at istd) = omega arith
few_sections (Field story at type code shown) = omega arith
few_sections (Note at text) = omega arith
few_sections (Split story at) = omega arith
few_sections (Merge story at) = omega arith
few_sections (Sect at new set) = omega arith
few_sections (Row story at width cells) = omega arith
few_sections (StyleChar istd set) = omega arith
few_sections (StylePara istd set) = omega arith
few_sections (Bookmark name from to) = omega arith
few_sections (Unmark name) = omega arith
few_sections (Save full) = omega arith
