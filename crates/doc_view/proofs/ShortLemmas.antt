-- A page of text is as long as its document.
use Rattle.std.proofs.Common.{◌≡◌, ℕ, zero, suc, ◌+◌, ◌-◌, ◌*◌, ◌/◌, ◌%◌, ◌<◌, ◌≤◌, Bool, true, false, ◌||◌, ◌&&◌, List, []}
use Rattle.std.proofs.Common.{◌∷◌, ◌++◌, length, take, drop, refl, sym, ap, subst, ◌∙◌, Option, Some, None, arith}
use Rattle.std.proofs.Common.{length-append, length-take}
use Rattle.std.proofs.lemmas.List.{length-map}
use Rattle.std.specs.Prelude.{⊤, if◌then◌else◌, not, slice_get, ◌==◌, codes, get_or, map, is_some, encode_utf8_all}
use Rattle.std.specs.Fmt.{decimal}
use Rattle.std.specs.List.{All, flat_map, sum_by}
use Rattle.std.proofs.lemmas.List.Elements.{All-nil, All-cons, All-append, All-head, All-tail}
use Rattle.std.proofs.lemmas.List.Sums.{count_by-le-length, sum_by-cons}
use Rattle.doc_model.specs.declared.item.Item.{Item}
use Rattle.doc_model.specs.declared.document.Document.{Document}
use Rattle.plain_doc.specs.RulesOfSheet.{item_count}
use Rattle.doc_model.specs.Settings.{is_inside}
use Rattle.doc_model.specs.Stretches.{stretches}
use Rattle.plain_doc.proofs.Public.{sound_is_valid}
use Rattle.doc_model.proofs.Public.{are_stretches}
use Rattle.list_numbers.specs.declared.paragraph_values.ListLabel.{ListLabel}
use Rattle.list_numbers.specs.declared.paragraph_values.ParagraphValues.{ParagraphValues}
use Rattle.list_numbers.specs.Counts.{count_at}
use Rattle.list_numbers.specs.Lists.{list_formats_of}
use Rattle.list_numbers.specs.MarkValues.{no_values}
use Rattle.list_numbers.specs.Numbers.{at_entry, units_in}
use Rattle.list_numbers.specs.ParagraphValues.{AreParagraphValuesOf, is_bullet_level, label_at_place}
use Rattle.list_numbers.specs.ParagraphValues.{font_of_level, label_with, list_level, shown_units, values_with}
use Rattle.symbol_fonts.specs.declared.fonts.SymbolFonts.{SymbolFonts}
use Rattle.symbol_fonts.specs.Characters.{shown_unit}
use Rattle.symbol_fonts.specs.Fonts.{symbol_font, symbol_fonts}
use Rattle.list_numbers.specs.Places.{place_of_values}
use Rattle.doc_view.specs.declared.line.Line.{Line}
use Rattle.doc_view.specs.declared.reading.Manner.{Manner}
use Rattle.doc_view.specs.declared.reading.Seen.{Seen}
use Rattle.doc_view.specs.declared.references.Reference.{Reference}
use Rattle.doc_view.specs.Glyphs.{glyphs_text}
use Rattle.doc_view.specs.Labels.{break_text, label_glyphs, label_text, opening_text}
use Rattle.doc_view.specs.Headers.{header_kind, header_lead, header_text, header_title, headers_from}
use Rattle.doc_view.specs.Laws.{PagesAreShort}
use Rattle.doc_view.specs.Layout.{front_at, inner_front, is_in_table, layout_of, line_front, line_behind}
use Rattle.doc_view.specs.Layout.{paragraph_text}
use Rattle.doc_view.specs.Layout.{some_here, tab_front, text_from}
use Rattle.doc_view.specs.Notes.{has_lines, note_label, note_lead, note_text, notes_from}
use Rattle.doc_view.specs.Page.{header_manner, headers_text, main_manner, note_manner, page_text}
use Rattle.doc_view.specs.Seen.{Formats, Paragraph, glyphs_in, is_here, paragraph_ending, paragraph_of, paragraphs_from}
use Rattle.doc_view.specs.Seen.{paragraphs_of, references_in, references_of, seen_from, some_shown, style_of, with_values}
use Rattle.doc_view.proofs.LengthLemmas.{IsSmallNumber, IsSmallReference, IsSmallSeen, digits_few, few_by, glyphs_few}
use Rattle.doc_view.proofs.LengthLemmas.{glyphs_size}
use Rattle.doc_view.proofs.LengthLemmas.{glyphs_small, items_small, label_size, references_small, seen_long, sizes_nine}
use Rattle.doc_view.proofs.LengthLemmas.{utf8_short}
use Rattle.doc_parts.proofs.Public.{all_tabulated}

-- ---- labels

-- a label has at most 64 units
abbrev pub IsShortLabel : Option ListLabel → Type 0
IsShortLabel None = ⊤
IsShortLabel (Some label) = length label.units ≤ 64

pub record AreShortValues (values : ParagraphValues) : Type 0 where
  pub label : IsShortLabel values.label

abbrev pub IsShortIn : Option ParagraphValues → Type 0
IsShortIn None = ⊤
IsShortIn (Some values) = AreShortValues values

with_short : (level : ℕ) (bullet : Bool) (units : List ℕ) → length units ≤ 64 →
    IsShortLabel (label_with level bullet units)
with_short level bullet [] few = tt
with_short level bullet (unit ∷ units) few = few

pub values_short : (document : Document) (values : List ParagraphValues) → AreParagraphValuesOf document values →
    All AreShortValues values
values_short document values is =
    let fonts = symbol_fonts document.carried.fonts in
    let lists = list_formats_of document.carried.lst document.carried.levels in
    let places = map (place_of_values document) is.values in
    subst (λ (all : List ParagraphValues). All AreShortValues all) (sym is.made)
    (all_tabulated AreShortValues (λ i. values_with (get_or is.values i no_values)
    (label_at_place fonts lists (take (i + 1) places) (at_entry (slice_get places i)))) (length is.values)
    (λ i. record {
      label =
          elim (at_entry (slice_get places i))
          as (λ place. IsShortLabel (label_at_place fonts lists (take (i + 1) places) place)) [
            | None ↦ tt
            | Some place ↦
                let list = slice_get lists place.list in
                let level = list_level list place.level in
                let units = units_in list place.level (count_at (take (i + 1) places) place.list) in
                with_short place.level (is_bullet_level level) (shown_units fonts level (take 64 units))
                (omega (
                  arith,
                  length-take 64 units,
                  length-map (take 64 units) (shown_unit (symbol_font fonts (font_of_level level))),
                ))
          ];
    }))

-- ---- what is before a paragraph's own text

either_few : (bound : ℕ) (test : Bool) (one other : List ℕ) → length one ≤ bound → length other ≤ bound →
    length (if test then one else other) ≤ bound
either_few bound true one other a b = a
either_few bound false one other a b = b

line_few : (lead : List ℕ) (some : Bool) → length lead ≤ 40 → length (line_front lead some) ≤ 40
line_few lead some few = either_few 40 some (10 ∷ []) lead (omega arith) few

front_few : (lead : List ℕ) (line : Line) (in_table : Bool) → length lead ≤ 40 →
    length (front_at lead line in_table) ≤ 41
front_few lead line in_table few =
    let front = if line.in_row then [] else line_front lead line.some in
    let row : length front ≤ 40 =
    either_few 40 line.in_row [] (line_front lead line.some) (omega arith) (line_few lead line.some few) in
    let tab : length (tab_front line.later) ≤ 1 = either_few 1 line.later (9 ∷ []) [] (omega arith) (omega arith) in
    either_few 41 in_table (inner_front lead line) (line_front lead line.some)
    (either_few 41 line.in_cell (32 ∷ []) (front ++ tab_front line.later) (omega arith)
    (omega (arith, row, tab, length-append front (tab_front line.later))))
    (omega (arith, line_few lead line.some few))

label_few : (in_table : Bool) (label : Option ListLabel) → IsShortLabel label → length (label_text in_table label) ≤ 65
label_few in_table None short = omega arith
label_few in_table (Some label) short = omega (arith, short, label_size in_table label.units)

opening_few : (in_table : Bool) (values : Option ParagraphValues) → IsShortIn values →
    length (opening_text in_table values) ≤ 66
opening_few in_table None short = omega arith
opening_few in_table (Some values) short =
    let break : length (break_text in_table values.breaks_page) ≤ 1 =
    either_few 1 (values.breaks_page && not in_table) (12 ∷ []) [] (omega arith) (omega arith) in
    omega (
      arith,
      break,
      label_few in_table values.label short.label,
      length-append (break_text in_table values.breaks_page) (label_text in_table values.label),
    )

-- ---- paragraphs

pub record IsShort (paragraph : Paragraph) : Type 0 where
  pub items : All IsSmallSeen paragraph.items
  pub values : IsShortIn paragraph.values

-- how many items paragraphs have
abbrev pub items_of : List Paragraph → ℕ
items_of [] = 0
items_of (paragraph ∷ more) = length paragraph.items + items_of more

here_some : (items : List Seen) → some_shown items ≡ true → 1 ≤ length items
here_some [] here = absurd (cc (here))
here_some (item ∷ items) here = omega arith

own_few : (in_table : Bool) (items : List Seen) → All IsSmallSeen items →
    length (glyphs_text in_table (glyphs_in items)) ≤ 9 * length items
own_few in_table items are =
    omega (
      arith,
      glyphs_size in_table (glyphs_in items),
      glyphs_few items,
      sizes_nine in_table (glyphs_in items) (glyphs_small items are),
    )

paragraph_short : (lead : List ℕ) (before : List Paragraph) (paragraph : Paragraph) → length lead ≤ 40 →
    IsShort paragraph → length (paragraph_text lead before paragraph) ≤ 116 * length paragraph.items
paragraph_short lead before paragraph few short =
    by (is_here paragraph) refl
  where
    by : (here : Bool) → is_here paragraph ≡ here →
        length (if here then (front_at lead (line_behind before) (is_in_table paragraph.standing)
        ++ opening_text (is_in_table paragraph.standing) paragraph.values)
        ++ glyphs_text (is_in_table paragraph.standing) (glyphs_in paragraph.items) else [])
        ≤ 116 * length paragraph.items
    by false is = omega arith
    by true is =
        let in_table = is_in_table paragraph.standing in
        let front = front_at lead (line_behind before) in_table in
        let opening = opening_text in_table paragraph.values in
        let own = glyphs_text in_table (glyphs_in paragraph.items) in
        let long : length ((front ++ opening) ++ own) ≤ 116 * length paragraph.items =
        omega (
          arith,
          here_some paragraph.items is,
          front_few lead (line_behind before) in_table few,
          opening_few in_table paragraph.values short.values,
          own_few in_table paragraph.items short.items,
          length-append front opening,
          length-append (front ++ opening) own,
        ) in
        long

text_short : (lead : List ℕ) (before paragraphs : List Paragraph) → length lead ≤ 40 → All IsShort paragraphs →
    length (text_from lead before paragraphs) ≤ 116 * items_of paragraphs + 1
unfolding text_from
text_short lead before [] few are = either_few 1 (some_here before) (10 ∷ []) [] (omega arith) (omega arith)
text_short lead before (paragraph ∷ more) few are =
    let own = paragraph_text lead before paragraph in
    let rest = text_from lead (paragraph ∷ before) more in
    let long : length (own ++ rest) ≤ 116 * (length paragraph.items + items_of more) + 1 =
    omega (
      arith,
      paragraph_short lead before paragraph few (All-head IsShort paragraph more are),
      text_short lead (paragraph ∷ before) more few (All-tail IsShort paragraph more are),
      length-append own rest,
    ) in
    long

-- ---- the paragraphs of a text

abbrev pub parts_long : List (List Item) → ℕ
parts_long [] = 0
parts_long (part ∷ parts) = length part + parts_long parts

joined_long : (parts : List (List Item)) → parts_long parts ≡ length (flat_map (λ part. part) parts)
joined_long [] = refl
joined_long (part ∷ parts) =
    let rest = flat_map (λ part. part) parts in
    let long : length part + parts_long parts ≡ length (part ++ rest) =
    omega (arith, joined_long parts, length-append part rest) in
    long

stretches_long : (items : List Item) → parts_long (stretches is_inside items) ≡ length items
stretches_long items =
    joined_long (stretches is_inside items) ∙ ap (λ (xs : List Item). length xs) (are_stretches is_inside items).whole

ending_short : (formats : Formats) (manner : Manner) (front items : List Item) (last : Option Item) →
    length front + length items < 999999 → IsShort (paragraph_ending formats manner front items last)
ending_short formats manner front items None few =
    record { items = items_small formats manner 0 front items few; values = tt }
ending_short formats manner front items (Some last) few =
    record { items = items_small formats manner (style_of last.mark) front items few; values = tt }

paragraphs_short : (formats : Formats) (manner : Manner) (front : List Item) (parts : List (List Item)) →
    length front + parts_long parts < 999999 → All IsShort (paragraphs_from formats manner front parts)
unfolding paragraphs_from
paragraphs_short formats manner front [] few = All-nil IsShort
paragraphs_short formats manner front (items ∷ more) few =
    All-cons IsShort (paragraph_of formats manner front items) (paragraphs_from formats manner (front ++ items) more)
    (ending_short formats manner front items (slice_get items (length items - 1)) (omega (arith, few)))
    (paragraphs_short formats manner (front ++ items) more (omega (arith, few, length-append front items)))

ending_long : (formats : Formats) (manner : Manner) (front items : List Item) (last : Option Item) →
    length (paragraph_ending formats manner front items last).items ≡ length items
ending_long formats manner front items None = seen_long formats manner 0 front items
ending_long formats manner front items (Some last) = seen_long formats manner (style_of last.mark) front items

paragraphs_long : (formats : Formats) (manner : Manner) (front : List Item) (parts : List (List Item)) →
    items_of (paragraphs_from formats manner front parts) ≡ parts_long parts
unfolding paragraphs_from
paragraphs_long formats manner front [] = refl
paragraphs_long formats manner front (items ∷ more) =
    λ i. ending_long formats manner front items (slice_get items (length items - 1)) i
    + paragraphs_long formats manner (front ++ items) more i

pub of_text : (formats : Formats) (manner : Manner) (items : List Item) → length items < 999999 →
    All IsShort (paragraphs_of formats manner items) × (items_of (paragraphs_of formats manner items) ≡ length items)
of_text formats manner items few = (
  paragraphs_short formats manner [] (stretches is_inside items) (omega (arith, few, stretches_long items)),
  paragraphs_long formats manner [] (stretches is_inside items) ∙ stretches_long items,
)

-- with values
pub with_values_short : (values : List ParagraphValues) (paragraphs : List Paragraph) → All AreShortValues values →
    All IsShort paragraphs → All IsShort (with_values values paragraphs)
unfolding with_values
with_values_short [] paragraphs short are = are
with_values_short (one ∷ more) [] short are = are
with_values_short (one ∷ more) (paragraph ∷ rest) short are =
    All-cons IsShort (record paragraph { values = Some one }) (with_values more rest)
    (record {
      items = (All-head IsShort paragraph rest are).items;
      values = All-head AreShortValues one more short;
    })
    (with_values_short more rest (All-tail AreShortValues one more short) (All-tail IsShort paragraph rest are))

pub with_values_long : (values : List ParagraphValues) (paragraphs : List Paragraph) →
    items_of (with_values values paragraphs) ≡ items_of paragraphs
unfolding with_values
with_values_long [] paragraphs = refl
with_values_long (one ∷ more) [] = refl
with_values_long (one ∷ more) (paragraph ∷ rest) =
    ap (λ n. length paragraph.items + n) (with_values_long more rest)

-- a text of a note or a header, which is empty where it has no item
layout_none : (lead : List ℕ) (formats : Formats) (manner : Manner) → layout_of lead (paragraphs_of formats manner []) ≡ []
unfolding stretches paragraphs_from text_from
layout_none lead formats manner = refl

layout_short : (lead : List ℕ) (formats : Formats) (manner : Manner) (items : List Item) → length lead ≤ 40 →
    length items < 999999 → length (layout_of lead (paragraphs_of formats manner items)) ≤ 117 * length items
layout_short lead formats manner [] few small =
    omega (arith, ap (λ (t : List ℕ). length t) (layout_none lead formats manner))
layout_short lead formats manner (item ∷ items) few small =
    let are = of_text formats manner (item ∷ items) small in
    omega (arith, text_short lead [] (paragraphs_of formats manner (item ∷ items)) few are.0, are.1)

-- ---- references and notes

pub references_short : (paragraphs : List Paragraph) → All IsShort paragraphs →
    All IsSmallReference (references_of paragraphs)
references_short [] are = All-nil IsSmallReference
references_short (paragraph ∷ more) are =
    All-append IsSmallReference (references_in paragraph.items) (references_of more)
    (references_small paragraph.items (All-head IsShort paragraph more are).items)
    (references_short more (All-tail IsShort paragraph more are))

note_label_few : (number : Option ℕ) → IsSmallNumber number → length (note_label number) ≤ 9
note_label_few None small = omega arith
note_label_few (Some number) small =
    omega (arith, digits_few number small, length-append (decimal number) (93 ∷ 32 ∷ []))

note_lead_few : (begun : Bool) (number : Option ℕ) → IsSmallNumber number → length (note_lead begun number) ≤ 40
note_lead_few begun number small =
    let line = if begun then [] else 10 ∷ [] in
    let one : length line ≤ 1 = either_few 1 begun [] (10 ∷ []) (omega arith) (omega arith) in
    omega (arith, one, note_label_few number small, length-append line (note_label number))

notes_short : (formats : Formats) (manner : Manner) (begun : Bool) (references : List Reference)
    (notes : List (List Item)) → All IsSmallReference references → sum_by length notes < 999999 →
    length (notes_from formats manner begun references notes) ≤ 117 * sum_by length notes
unfolding notes_from
notes_short formats manner begun [] notes are few = omega arith
notes_short formats manner begun (reference ∷ references) [] are few = omega arith
notes_short formats manner begun (reference ∷ references) (note ∷ notes) are few =
    let more = begun || has_lines formats manner reference note in
    let here = if reference.is_shown then note_text formats manner begun reference.number note else [] in
    let sum = sum_by-cons length note notes in
    let own : length here ≤ 117 * length note =
    either_few (117 * length note) reference.is_shown (note_text formats manner begun reference.number note) []
    (layout_short (note_lead begun reference.number) formats manner note
    (note_lead_few begun reference.number (All-head IsSmallReference reference references are).number)
    (omega (arith, few, sum))) (omega arith) in
    let rest = notes_from formats manner more references notes in
    let long : length (here ++ rest) ≤ 117 * sum_by length (note ∷ notes) =
    omega (
      arith,
      own,
      sum,
      notes_short formats manner more references notes (All-tail IsSmallReference reference references are)
          (omega (arith, few, sum)),
      length-append here rest,
    ) in
    long

-- ---- header texts

kind_few : (kind : ℕ) → length (header_kind kind) ≤ 12
kind_few kind =
    let last = either_few 12 (kind == 4) (codes "first header") (codes "first footer")
    (few_by 12 12 (codes "first header") refl (omega arith)) (few_by 12 12 (codes "first footer") refl (omega arith)) in
    let third = either_few 12 (kind == 3) (codes "odd footer") (if kind == 4 then codes "first header" else codes
    "first footer") (few_by 12 10 (codes "odd footer") refl (omega arith)) last in
    let second = either_few 12 (kind == 2) (codes "even footer") (if kind == 3 then codes "odd footer" else
    if kind == 4 then codes "first header" else codes "first footer")
    (few_by 12 11 (codes "even footer") refl (omega arith)) third in
    let first = either_few 12 (kind == 1) (codes "odd header") (if kind == 2 then codes "even footer" else
    if kind == 3 then codes "odd footer" else if kind == 4 then codes "first header" else codes "first footer")
    (few_by 12 10 (codes "odd header") refl (omega arith)) second in
    either_few 12 (kind == 0) (codes "even header") (if kind == 1 then codes "odd header" else
    if kind == 2 then codes "even footer" else if kind == 3 then codes "odd footer" else
    if kind == 4 then codes "first header" else codes "first footer")
    (few_by 12 11 (codes "even header") refl (omega arith)) first

title_few : (number : ℕ) → number < 6000000 → length (header_title number) ≤ 39
title_few number small =
    let digits = decimal (number / 6) in
    let left : length (codes "[") ≡ 1 = refl in
    let middle : length (codes " of section ") ≡ 12 = refl in
    let right : length (codes "]\n") ≡ 2 = refl in
    omega (
      arith,
      left,
      middle,
      right,
      kind_few (number % 6),
      digits_few (number / 6) (omega arith),
      length-append digits (codes "]\n"),
      length-append (codes " of section ") (digits ++ codes "]\n"),
      length-append (header_kind (number % 6)) (codes " of section " ++ (digits ++ codes "]\n")),
      length-append (codes "[") (header_kind (number % 6) ++ (codes " of section " ++ (digits ++ codes "]\n"))),
    )

header_lead_few : (begun : Bool) (number : ℕ) → number < 6000000 → length (header_lead begun number) ≤ 40
header_lead_few begun number small =
    let line = if begun then [] else 10 ∷ [] in
    let one : length line ≤ 1 = either_few 1 begun [] (10 ∷ []) (omega arith) (omega arith) in
    omega (arith, one, title_few number small, length-append line (header_title number))

headers_short : (formats : Formats) (manner : Manner) (begun : Bool) (number : ℕ) (texts : List (List Item)) →
    number + length texts < 6000000 → sum_by length texts < 999999 →
    length (headers_from formats manner begun number texts) ≤ 117 * sum_by length texts
unfolding headers_from
headers_short formats manner begun number [] few small = omega arith
headers_short formats manner begun number (text ∷ texts) few small =
    let more = begun || some_here (paragraphs_of formats manner text) in
    let sum = sum_by-cons length text texts in
    let own = header_text formats manner begun number text in
    let rest = headers_from formats manner more (number + 1) texts in
    let long : length (own ++ rest) ≤ 117 * sum_by length (text ∷ texts) =
    omega (
      arith,
      sum,
      layout_short (header_lead begun number) formats manner text (header_lead_few begun number (omega (arith, few)))
          (omega (arith, small, sum)),
      headers_short formats manner more (number + 1) texts (omega (arith, few)) (omega (arith, small, sum)),
      length-append own rest,
    ) in
    long

-- ---- the page

behind_short : (n : ℕ) (texts : List (List Item)) →
    (sum_by length (drop n texts) ≤ sum_by length texts) × (n + length (drop n texts) ≤ n + length texts)
behind_short zero texts = (omega arith, omega arith)
behind_short (suc n) [] = (omega arith, omega arith)
behind_short (suc n) (text ∷ texts) =
    let rest = behind_short n texts in (
      omega (arith, rest.0, sum_by-cons length text texts),
      omega (arith, rest.1),
    )

pub page_short : PagesAreShort
page_short options document bytes sound is =
    let right = sound_is_valid document sound in
    let main = paragraphs_of is.formats (main_manner options document) document.main in
    let paragraphs = with_values is.values main in
    let few : item_count document < 999999 = omega (arith, right.few) in
    let are = of_text is.formats (main_manner options document) document.main (omega (arith, few)) in
    let short = with_values_short is.values main (values_short document is.values is.are_values) are.0 in
    let notes = notes_from is.formats (note_manner options document) false (references_of paragraphs) document.notes in
    let heads = drop 6 document.heads in
    let rest = behind_short 6 document.heads in
    let sections = count_by-le-length (λ (item : Item). is_some item.sect) document.main in
    let headers = headers_from is.formats (header_manner options document) false 6 heads in
    let of_headers : length (headers_text is.formats options document) ≤ 117 * sum_by length document.heads =
    either_few (117 * sum_by length document.heads) options.headers headers []
    (omega (
      arith,
      rest.0,
      headers_short is.formats (header_manner options document) false 6 heads
          (omega (arith, rest.1, right.heads, sections, few)) (omega (arith, rest.0, few)),
    )) (omega arith) in
    let text = page_text is.formats is.values options document in
    let of_main = text_short [] [] paragraphs (omega arith) short in
    let of_notes =
    notes_short is.formats (note_manner options document) false (references_of paragraphs) document.notes
    (references_short paragraphs short) (omega (arith, few)) in
    let long : length text ≤ 117 * item_count document + 1 =
    omega (
      arith,
      of_main,
      of_notes,
      of_headers,
      are.1,
      with_values_long is.values main,
      length-append notes (headers_text is.formats options document),
      length-append (layout_of [] paragraphs) (notes ++ headers_text is.formats options document),
    ) in
    let same : length bytes ≡ length (encode_utf8_all text) = ap (λ (b : List ℕ). length b) is.text in
    omega (arith, same, utf8_short text, long)
