-- No character of a page is a control.
use Rattle.std.proofs.Common.{ℕ, ◌+◌, ◌-◌, ◌/◌, ◌%◌, Bool, true, false, not, ◌||◌, ◌&&◌, List, [], ◌∷◌}
use Rattle.std.proofs.Common.{◌++◌, refl, Option, Some, None}
use Rattle.std.specs.Prelude.{if◌then◌else◌, is_some, slice_get, length, drop, codes, nat_le, nat_lt, ◌==◌}
use Rattle.std.specs.Fmt.{decimal}
use Rattle.std.specs.List.{All, cons_option, filter_map}
use Rattle.std.proofs.lemmas.List.Elements.{All-nil, All-cons, All-append, All-head, All-tail}
use Rattle.doc_model.specs.declared.item.Item.{Item}
use Rattle.doc_model.specs.declared.item.NoteKind.{NoteKind}
use Rattle.doc_model.specs.declared.item.NoteKind.TheVariants.{Auto, Custom}
use Rattle.doc_model.specs.Settings.{is_inside}
use Rattle.doc_model.specs.Stretches.{stretches}
use Rattle.char_formats.specs.declared.format.CharFormat.{CharFormat}
use Rattle.list_numbers.specs.declared.paragraph_values.ListLabel.{ListLabel}
use Rattle.list_numbers.specs.declared.paragraph_values.ParagraphValues.{ParagraphValues}
use Rattle.view_places.specs.declared.glyph.Glyph.{Glyph}
use Rattle.view_places.specs.declared.glyph.Glyph.TheVariants.{Unit}
use Rattle.doc_view.specs.declared.line.Line.{Line}
use Rattle.doc_view.specs.declared.reading.Front.{Front}
use Rattle.doc_view.specs.declared.reading.Manner.{Manner}
use Rattle.doc_view.specs.declared.reading.Seen.{Seen}
use Rattle.doc_view.specs.declared.references.Reference.{Reference}
use Rattle.doc_view.specs.Glyphs.{visible_glyph, glyphs_text, is_windows, unit_glyph}
use Rattle.doc_view.specs.Labels.{break_text, label_glyph, label_glyphs, label_text, opening_text}
use Rattle.doc_view.specs.Headers.{header_kind, header_lead, header_text, header_title, headers_from}
use Rattle.doc_view.specs.Laws.{NoControls}
use Rattle.doc_view.specs.Layout.{front_at, inner_front, is_in_table, layout_of, line_front, line_behind}
use Rattle.doc_view.specs.Layout.{paragraph_text}
use Rattle.doc_view.specs.Layout.{some_here, tab_front, text_from}
use Rattle.doc_view.specs.Notes.{has_lines, note_label, note_lead, note_text, notes_from}
use Rattle.doc_view.specs.Page.{header_manner, headers_text, main_manner, note_manner, page_text}
use Rattle.doc_view.specs.Seen.{Formats, Paragraph, front_of, glyphs_in, is_here, paragraph_ending, paragraphs_from}
use Rattle.doc_view.specs.Seen.{paragraph_of, paragraphs_of, reference_kind, references_of, seen_as, seen_from}
use Rattle.doc_view.specs.Seen.{style_of, visible, with_values}
use Rattle.doc_view.proofs.CharacterLemmas.{ArePlain, none_plain, more_plain, both_plain, one_plain, either_plain, decimal_plain}
use Rattle.doc_view.proofs.CharacterLemmas.{IsPlainGlyph, IsPlainIn, either_glyph, glyph_plain, glyphs_plain}
use Rattle.doc_view.proofs.CharacterLemmas.{are_plain, known_plain, unit_by_tests}

-- ---- what is seen

IsPlainSeen : Seen → Type 0
IsPlainSeen seen = IsPlainIn seen.glyph

visible_plain : (kind : Option NoteKind) (number : ℕ) (glyph : Option Glyph) → IsPlainIn glyph →
    IsPlainIn (visible kind number glyph)
visible_plain None number glyph plain = plain
visible_plain (Some Auto) number glyph plain = refl
visible_plain (Some Custom) number glyph plain = plain

item_plain : (manner : Manner) (format : CharFormat) (front : Front) (item : Item) →
    IsPlainSeen (seen_as manner format front item)
unfolding IsPlainSeen
item_plain manner format front item =
    visible_plain (reference_kind manner item.note) (front.numbered + 1) (visible_glyph manner.fonts format (is_some
    item.sect) item.unit)
    (glyph_plain manner.fonts format (is_some item.sect) item.unit)

items_plain : (formats : Formats) (manner : Manner) (istd : ℕ) (front items : List Item) →
    All IsPlainSeen (seen_from formats manner istd front items)
unfolding seen_from
items_plain formats manner istd front [] = All-nil IsPlainSeen
items_plain formats manner istd front (item ∷ items) =
    All-cons IsPlainSeen (seen_as manner (formats istd item.chp) (front_of manner front) item)
    (seen_from formats manner istd (front ++ item ∷ []) items)
    (item_plain manner (formats istd item.chp) (front_of manner front) item)
    (items_plain formats manner istd (front ++ item ∷ []) items)

one_glyph : (glyph : Option Glyph) (glyphs : List Glyph) → IsPlainIn glyph → All IsPlainGlyph glyphs →
    All IsPlainGlyph (cons_option glyph glyphs)
one_glyph None glyphs plain are = are
one_glyph (Some glyph) glyphs plain are = All-cons IsPlainGlyph glyph glyphs plain are

glyphs_seen : (items : List Seen) → All IsPlainSeen items → All IsPlainGlyph (glyphs_in items)
unfolding IsPlainSeen
glyphs_seen [] are = All-nil IsPlainGlyph
glyphs_seen (item ∷ items) are =
    one_glyph (if item.is_shown then item.glyph else None) (glyphs_in items)
    (either_glyph item.is_shown item.glyph None (All-head IsPlainSeen item items are) refl)
    (glyphs_seen items (All-tail IsPlainSeen item items are))

-- ---- paragraphs

IsPlainParagraph : Paragraph → Type 0
IsPlainParagraph paragraph = All IsPlainSeen paragraph.items

ending_plain : (formats : Formats) (manner : Manner) (front items : List Item) (last : Option Item) →
    IsPlainParagraph (paragraph_ending formats manner front items last)
unfolding IsPlainParagraph
ending_plain formats manner front items None = items_plain formats manner 0 front items
ending_plain formats manner front items (Some last) = items_plain formats manner (style_of last.mark) front items

paragraphs_plain : (formats : Formats) (manner : Manner) (front : List Item) (parts : List (List Item)) →
    All IsPlainParagraph (paragraphs_from formats manner front parts)
unfolding paragraphs_from
paragraphs_plain formats manner front [] = All-nil IsPlainParagraph
paragraphs_plain formats manner front (items ∷ more) =
    All-cons IsPlainParagraph (paragraph_of formats manner front items)
    (paragraphs_from formats manner (front ++ items) more)
    (ending_plain formats manner front items (slice_get items (length items - 1)))
    (paragraphs_plain formats manner (front ++ items) more)

line_plain : (lead : List ℕ) (some : Bool) → ArePlain lead → ArePlain (line_front lead some)
line_plain lead some plain = either_plain some (10 ∷ []) lead (one_plain 10 refl) plain

front_plain : (lead : List ℕ) (line : Line) (in_table : Bool) → ArePlain lead → ArePlain (front_at lead line in_table)
front_plain lead line in_table plain =
    either_plain in_table (inner_front lead line) (line_front lead line.some)
    (either_plain line.in_cell (32 ∷ []) ((if line.in_row then [] else line_front lead line.some) ++ tab_front line.later)
    (one_plain 32 refl)
    (both_plain (if line.in_row then [] else line_front lead line.some) (tab_front line.later)
    (either_plain line.in_row [] (line_front lead line.some) none_plain (line_plain lead line.some plain))
    (either_plain line.later (9 ∷ []) [] (one_plain 9 refl) none_plain)))
    (line_plain lead line.some plain)

-- what is in front of a paragraph's own text

unit_plain : (unit : ℕ) → IsPlainIn (label_glyph unit)
unit_plain unit =
    either_glyph (nat_le 0xF000 unit && nat_le unit 0xF0FF) (Some (Unit 0x2022)) (unit_glyph unit true) refl
    (unit_by_tests unit true (nat_lt unit 0x20) (is_windows unit) refl refl)

units_plain : (units : List ℕ) → All IsPlainGlyph (filter_map label_glyph units)
units_plain [] = All-nil IsPlainGlyph
units_plain (unit ∷ units) =
    one_glyph (label_glyph unit) (filter_map label_glyph units) (unit_plain unit) (units_plain units)

own_label_plain : (in_table : Bool) (label : Option ListLabel) → ArePlain (label_text in_table label)
own_label_plain in_table None = none_plain
own_label_plain in_table (Some label) =
    glyphs_plain in_table (label_glyphs label.units)
    (All-append IsPlainGlyph (filter_map label_glyph label.units) (Unit 0x20 ∷ []) (units_plain label.units)
    (All-cons IsPlainGlyph (Unit 0x20) [] refl (All-nil IsPlainGlyph)))

opening_plain : (in_table : Bool) (values : Option ParagraphValues) → ArePlain (opening_text in_table values)
opening_plain in_table None = none_plain
opening_plain in_table (Some values) =
    both_plain (break_text in_table values.breaks_page) (label_text in_table values.label)
    (either_plain (values.breaks_page && not in_table) (12 ∷ []) [] (one_plain 12 refl) none_plain)
    (own_label_plain in_table values.label)

paragraph_plain : (lead : List ℕ) (before : List Paragraph) (paragraph : Paragraph) → ArePlain lead →
    IsPlainParagraph paragraph → ArePlain (paragraph_text lead before paragraph)
unfolding IsPlainParagraph
paragraph_plain lead before paragraph plain is =
    let in_table = is_in_table paragraph.standing in
    either_plain (is_here paragraph)
    ((front_at lead (line_behind before) in_table ++ opening_text in_table paragraph.values)
    ++ glyphs_text in_table (glyphs_in paragraph.items)) []
    (both_plain (front_at lead (line_behind before) in_table ++ opening_text in_table paragraph.values)
    (glyphs_text in_table (glyphs_in paragraph.items))
    (both_plain (front_at lead (line_behind before) in_table) (opening_text in_table paragraph.values)
    (front_plain lead (line_behind before) in_table plain) (opening_plain in_table paragraph.values))
    (glyphs_plain in_table (glyphs_in paragraph.items) (glyphs_seen paragraph.items is)))
    none_plain

text_plain : (lead : List ℕ) (before paragraphs : List Paragraph) → ArePlain lead →
    All IsPlainParagraph paragraphs → ArePlain (text_from lead before paragraphs)
unfolding text_from
text_plain lead before [] plain are = either_plain (some_here before) (10 ∷ []) [] (one_plain 10 refl) none_plain
text_plain lead before (paragraph ∷ more) plain are =
    both_plain (paragraph_text lead before paragraph) (text_from lead (paragraph ∷ before) more)
    (paragraph_plain lead before paragraph plain (All-head IsPlainParagraph paragraph more are))
    (text_plain lead (paragraph ∷ before) more plain (All-tail IsPlainParagraph paragraph more are))

-- a text behind its lead
layout_plain : (lead : List ℕ) (formats : Formats) (manner : Manner) (items : List Item) → ArePlain lead →
    ArePlain (layout_of lead (paragraphs_of formats manner items))
layout_plain lead formats manner items plain =
    text_plain lead [] (paragraphs_of formats manner items) plain
    (paragraphs_plain formats manner [] (stretches is_inside items))

-- paragraphs with values
values_plain : (values : List ParagraphValues) (paragraphs : List Paragraph) → All IsPlainParagraph paragraphs →
    All IsPlainParagraph (with_values values paragraphs)
unfolding with_values IsPlainParagraph
values_plain [] paragraphs are = are
values_plain (one ∷ more) [] are = are
values_plain (one ∷ more) (paragraph ∷ rest) are =
    All-cons IsPlainParagraph (record paragraph { values = Some one }) (with_values more rest)
    (All-head IsPlainParagraph paragraph rest are)
    (values_plain more rest (All-tail IsPlainParagraph paragraph rest are))

-- the main text
main_plain : (values : List ParagraphValues) (formats : Formats) (manner : Manner) (items : List Item) →
    ArePlain (layout_of [] (with_values values (paragraphs_of formats manner items)))
main_plain values formats manner items =
    text_plain [] [] (with_values values (paragraphs_of formats manner items)) none_plain
    (values_plain values (paragraphs_of formats manner items)
    (paragraphs_plain formats manner [] (stretches is_inside items)))

-- ---- notes

label_plain : (number : Option ℕ) → ArePlain (note_label number)
label_plain None = none_plain
label_plain (Some number) =
    more_plain 91 (decimal number ++ 93 ∷ 32 ∷ []) refl
    (both_plain (decimal number) (93 ∷ 32 ∷ []) (decimal_plain number)
    (more_plain 93 (32 ∷ []) refl (one_plain 32 refl)))

lead_plain : (begun : Bool) (number : Option ℕ) → ArePlain (note_lead begun number)
lead_plain begun number =
    both_plain (if begun then [] else 10 ∷ []) (note_label number)
    (either_plain begun [] (10 ∷ []) none_plain (one_plain 10 refl)) (label_plain number)

notes_plain : (formats : Formats) (manner : Manner) (begun : Bool) (references : List Reference)
    (notes : List (List Item)) → ArePlain (notes_from formats manner begun references notes)
unfolding notes_from
notes_plain formats manner begun [] notes = none_plain
notes_plain formats manner begun (reference ∷ references) [] = none_plain
notes_plain formats manner begun (reference ∷ references) (note ∷ notes) =
    both_plain (if reference.is_shown then note_text formats manner begun reference.number note else [])
    (notes_from formats manner (begun || has_lines formats manner reference note) references notes)
    (either_plain reference.is_shown (note_text formats manner begun reference.number note) []
    (layout_plain (note_lead begun reference.number) formats manner note (lead_plain begun reference.number)) none_plain)
    (notes_plain formats manner (begun || has_lines formats manner reference note) references notes)

-- ---- header texts

kind_plain : (kind : ℕ) → ArePlain (header_kind kind)
unfolding are_plain
kind_plain kind =
    let first = either_plain (kind == 4) (codes "first header") (codes "first footer")
    (known_plain (codes "first header") refl) (known_plain (codes "first footer") refl) in
    let third = either_plain (kind == 3) (codes "odd footer") (if kind == 4 then codes "first header" else codes
    "first footer") (known_plain (codes "odd footer") refl) first in
    let second = either_plain (kind == 2) (codes "even footer") (if kind == 3 then codes "odd footer" else
    if kind == 4 then codes "first header" else codes "first footer") (known_plain (codes "even footer") refl) third in
    let odd = either_plain (kind == 1) (codes "odd header") (if kind == 2 then codes "even footer" else
    if kind == 3 then codes "odd footer" else if kind == 4 then codes "first header" else codes "first footer")
    (known_plain (codes "odd header") refl) second in
    either_plain (kind == 0) (codes "even header") (if kind == 1 then codes "odd header" else
    if kind == 2 then codes "even footer" else if kind == 3 then codes "odd footer" else
    if kind == 4 then codes "first header" else codes "first footer") (known_plain (codes "even header") refl) odd

title_plain : (number : ℕ) → ArePlain (header_title number)
unfolding are_plain
title_plain number =
    both_plain (codes "[") (header_kind (number % 6) ++ (codes " of section " ++ (decimal (number / 6) ++ codes "]\n")))
    (known_plain (codes "[") refl)
    (both_plain (header_kind (number % 6)) (codes " of section " ++ (decimal (number / 6) ++ codes "]\n"))
    (kind_plain (number % 6))
    (both_plain (codes " of section ") (decimal (number / 6) ++ codes "]\n") (known_plain (codes " of section ") refl)
    (both_plain (decimal (number / 6)) (codes "]\n") (decimal_plain (number / 6)) (known_plain (codes "]\n") refl))))

headers_plain : (formats : Formats) (manner : Manner) (begun : Bool) (number : ℕ) (texts : List (List Item)) →
    ArePlain (headers_from formats manner begun number texts)
unfolding headers_from
headers_plain formats manner begun number [] = none_plain
headers_plain formats manner begun number (text ∷ texts) =
    both_plain (header_text formats manner begun number text)
    (headers_from formats manner (begun || some_here (paragraphs_of formats manner text)) (number + 1) texts)
    (layout_plain (header_lead begun number) formats manner text
    (both_plain (if begun then [] else 10 ∷ []) (header_title number)
    (either_plain begun [] (10 ∷ []) none_plain (one_plain 10 refl)) (title_plain number)))
    (headers_plain formats manner (begun || some_here (paragraphs_of formats manner text)) (number + 1) texts)

pub page_plain : NoControls
page_plain options document bytes is =
    let paragraphs = with_values is.values (paragraphs_of is.formats (main_manner options document) document.main) in
    let notes = notes_from is.formats (note_manner options document) false (references_of paragraphs) document.notes in
    let headers = headers_from is.formats (header_manner options document) false 6 (drop 6 document.heads) in (
      page_text is.formats is.values options document,
      (
        is.text,
        both_plain (layout_of [] paragraphs) (notes ++ headers_text is.formats options document)
            (main_plain is.values is.formats (main_manner options document) document.main)
            (both_plain notes (headers_text is.formats options document)
            (notes_plain is.formats (note_manner options document) false (references_of paragraphs) document.notes)
            (either_plain options.headers headers []
            (headers_plain is.formats (header_manner options document) false 6 (drop 6 document.heads)) none_plain)),
      ),
    )
