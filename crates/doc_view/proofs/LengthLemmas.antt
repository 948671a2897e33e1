-- How long what is seen of a text is.
use Rattle.std.proofs.Common.{◌≡◌, ℕ, ◌+◌, ◌*◌, ◌<◌, ◌≤◌, Bool, true, false, ◌&&◌, List, [], ◌∷◌, ◌++◌, length, refl, suc, ap}
use Rattle.std.proofs.Common.{Option, Some, None, arith, length-append}
use Rattle.std.specs.Prelude.{⊤, if◌then◌else◌, is_some, nat_lt, nat_le, not, ◌||◌, ◌==◌, codes, encode_utf8_all}
use Rattle.std.specs.Char.{encode_utf8}
use Rattle.std.specs.Fmt.{decimal}
use Rattle.std.specs.List.{All, cons_option, count_by, filter_map}
use Rattle.std.proofs.lemmas.Fmt.{length-decimal-le}
use Rattle.std.proofs.lemmas.Str.{len_utf8_bounds, length-encode}
use Rattle.std.proofs.lemmas.List.Elements.{All-nil, All-cons, All-append, All-head, All-tail}
use Rattle.std.proofs.lemmas.List.Sums.{count_by-le-length}
use Rattle.doc_model.specs.declared.item.Item.{Item}
use Rattle.doc_model.specs.declared.item.NoteKind.{NoteKind}
use Rattle.doc_model.specs.declared.item.NoteKind.TheVariants.{Auto, Custom}
use Rattle.char_formats.specs.declared.format.CharFormat.{CharFormat}
use Rattle.symbol_fonts.specs.declared.fonts.SymbolFonts.{SymbolFonts}
use Rattle.view_places.specs.declared.glyph.Glyph.{Glyph}
use Rattle.view_places.specs.declared.glyph.Glyph.TheVariants.{Unit, Tab, LineBreak, PageBreak, NoteMark, Picture, Object}
use Rattle.doc_view.specs.declared.reading.Front.{Front}
use Rattle.doc_view.specs.declared.reading.Manner.{Manner}
use Rattle.doc_view.specs.declared.reading.Seen.{Seen}
use Rattle.doc_view.specs.declared.references.Reference.{Reference}
use Rattle.doc_view.specs.Glyphs.{are_halves, control_glyph, drawn_unit, visible_glyph, glyph_text, glyphs_text}
use Rattle.doc_view.specs.Glyphs.{is_stand_in}
use Rattle.doc_view.specs.Glyphs.{is_windows, stand_in_glyph, unit_glyph, halves_text, windows_unit}
use Rattle.doc_view.specs.Labels.{label_glyph, label_glyphs}
use Rattle.doc_view.specs.Seen.{Formats, front_of, glyphs_in, is_auto_reference, reference_kind, reference_of}
use Rattle.doc_view.specs.Seen.{references_in}
use Rattle.doc_view.specs.Seen.{seen_as, seen_from, visible}

-- ---- bytes and digits

pub utf8_short : (text : List ℕ) → length (encode_utf8_all text) ≤ 4 * length text
unfolding encode_utf8
utf8_short [] = omega arith
utf8_short (code ∷ more) =
    omega (
      arith,
      utf8_short more,
      length-encode code,
      (len_utf8_bounds code).1,
      length-append (encode_utf8 code) (encode_utf8_all more),
    )

pub digits_few : (number : ℕ) → number < 1000000 → length (decimal number) ≤ 6
digits_few number small = length-decimal-le 6 number (omega arith) (omega arith) (omega arith)

pub few_by : (bound count : ℕ) (text : List ℕ) → length text ≡ count → count ≤ bound → length text ≤ bound
few_by bound count text is few = omega (arith, is, few)

-- ---- glyphs in a row

-- how long they are one by one
abbrev pub sizes : Bool → List Glyph → ℕ
sizes in_cell [] = 0
sizes in_cell (glyph ∷ glyphs) = length (glyph_text in_cell glyph) + sizes in_cell glyphs

whole_size : (in_cell : Bool) (one next : Glyph) →
    length (halves_text one next) ≤ length (glyph_text in_cell one) + length (glyph_text in_cell next)
whole_size in_cell (Unit first) (Unit second) = omega arith
whole_size in_cell (Unit first) Tab = omega arith
whole_size in_cell (Unit first) LineBreak = omega arith
whole_size in_cell (Unit first) PageBreak = omega arith
whole_size in_cell (Unit first) (NoteMark number) = omega arith
whole_size in_cell (Unit first) (Picture place) = omega arith
whole_size in_cell (Unit first) Object = omega arith
whole_size in_cell Tab next = omega arith
whole_size in_cell LineBreak next = omega arith
whole_size in_cell PageBreak next = omega arith
whole_size in_cell (NoteMark number) next = omega arith
whole_size in_cell (Picture place) next = omega arith
whole_size in_cell Object next = omega arith

pub glyphs_size : (in_cell : Bool) (glyphs : List Glyph) → length (glyphs_text in_cell glyphs) ≤ sizes in_cell glyphs
unfolding glyphs_text
glyphs_size in_cell [] = omega arith
glyphs_size in_cell (one ∷ []) =
    let long : length (glyph_text in_cell one) ≤ length (glyph_text in_cell one) + 0 = omega arith in long
glyphs_size in_cell (one ∷ next ∷ more) =
    elim (are_halves one next)
    as (λ b. length (if b then halves_text one next ++ glyphs_text in_cell more else
    glyph_text in_cell one ++ glyphs_text in_cell (next ∷ more)) ≤ sizes in_cell (one ∷ next ∷ more)) [
      | true ↦
          let long : length (halves_text one next ++ glyphs_text in_cell more)
          ≤ length (glyph_text in_cell one) + (length (glyph_text in_cell next) + sizes in_cell more) =
          omega (
            arith,
            whole_size in_cell one next,
            glyphs_size in_cell more,
            length-append (halves_text one next) (glyphs_text in_cell more),
          ) in
          long
      | false ↦
          let long : length (glyph_text in_cell one ++ glyphs_text in_cell (next ∷ more))
          ≤ length (glyph_text in_cell one) + sizes in_cell (next ∷ more) =
          omega (
            arith,
            glyphs_size in_cell (next ∷ more),
            length-append (glyph_text in_cell one) (glyphs_text in_cell (next ∷ more)),
          ) in
          long
    ]

-- ---- glyphs of items

-- the numbers of notes have few digits
abbrev pub IsSmall : Glyph → Type 0
IsSmall (Unit unit) = ⊤
IsSmall Tab = ⊤
IsSmall LineBreak = ⊤
IsSmall PageBreak = ⊤
IsSmall (NoteMark number) = number < 1000000
IsSmall (Picture place) = ⊤
IsSmall Object = ⊤

abbrev pub IsSmallIn : Option Glyph → Type 0
IsSmallIn None = ⊤
IsSmallIn (Some glyph) = IsSmall glyph

small_size : (in_cell : Bool) (glyph : Glyph) → IsSmall glyph → length (glyph_text in_cell glyph) ≤ 9
small_size in_cell (Unit unit) small = omega arith
small_size in_cell Tab small = omega arith
small_size in_cell LineBreak small = omega arith
small_size in_cell PageBreak small = omega arith
small_size in_cell (NoteMark number) small =
    omega (arith, digits_few number small, length-append (decimal number) (93 ∷ []))
small_size in_cell (Picture place) small = few_by 9 9 (codes "[picture]") refl (omega arith)
small_size in_cell Object small = few_by 9 8 (codes "[object]") refl (omega arith)

pub sizes_nine : (in_cell : Bool) (glyphs : List Glyph) → All IsSmall glyphs → sizes in_cell glyphs ≤ 9 * length glyphs
sizes_nine in_cell [] are = omega arith
sizes_nine in_cell (glyph ∷ glyphs) are =
    let long : length (glyph_text in_cell glyph) + sizes in_cell glyphs ≤ 9 * suc (length glyphs) =
    omega (
      arith,
      small_size in_cell glyph (All-head IsSmall glyph glyphs are),
      sizes_nine in_cell glyphs (All-tail IsSmall glyph glyphs are),
    ) in
    long

either_small : (test : Bool) (one other : Option Glyph) → IsSmallIn one → IsSmallIn other →
    IsSmallIn (if test then one else other)
either_small true one other a b = a
either_small false one other a b = b

control_small : (unit : ℕ) (ends_section : Bool) → IsSmallIn (control_glyph unit ends_section)
control_small unit ends_section =
    either_small (unit == 0x09) (Some Tab)
    (if unit == 0x0B || unit == 0x0E then Some LineBreak else
    if unit == 0x0C && not ends_section then Some PageBreak else if unit == 0x1E then Some (Unit 0x2011) else None)
    tt
    (either_small (unit == 0x0B || unit == 0x0E) (Some LineBreak)
    (if unit == 0x0C && not ends_section then Some PageBreak else if unit == 0x1E then Some (Unit 0x2011) else None)
    tt
    (either_small (unit == 0x0C && not ends_section) (Some PageBreak)
    (if unit == 0x1E then Some (Unit 0x2011) else None) tt
    (either_small (unit == 0x1E) (Some (Unit 0x2011)) None tt tt)))

unit_small : (unit : ℕ) (ends_section : Bool) → IsSmallIn (unit_glyph unit ends_section)
unit_small unit ends_section =
    either_small (nat_lt unit 0x20) (control_glyph unit ends_section)
    (Some (Unit (if is_windows unit then windows_unit unit else unit))) (control_small unit ends_section) tt

glyph_small : (fonts : SymbolFonts) (format : CharFormat) (ends_section : Bool) (unit : ℕ) →
    IsSmallIn (visible_glyph fonts format ends_section unit)
glyph_small fonts format ends_section unit =
    either_small (is_stand_in format unit) (stand_in_glyph format)
    (unit_glyph (drawn_unit fonts format unit) ends_section)
    (either_small format.of_field None (if format.object then Some Object else Some (Picture format.picture)) tt
    (either_small format.object (Some Object) (Some (Picture format.picture)) tt tt))
    (unit_small (drawn_unit fonts format unit) ends_section)

visible_small : (kind : Option NoteKind) (number : ℕ) (glyph : Option Glyph) → number < 1000000 → IsSmallIn glyph →
    IsSmallIn (visible kind number glyph)
visible_small None number glyph low small = small
visible_small (Some Auto) number glyph low small = low
visible_small (Some Custom) number glyph low small = small

-- ---- items

abbrev pub IsSmallNumber : Option ℕ → Type 0
IsSmallNumber None = ⊤
IsSmallNumber (Some number) = number < 1000000

pub record IsSmallReference (reference : Reference) : Type 0 where
  pub number : IsSmallNumber reference.number

abbrev pub IsSmallReferenceIn : Option Reference → Type 0
IsSmallReferenceIn None = ⊤
IsSmallReferenceIn (Some reference) = IsSmallReference reference

reference_small : (kind : Option NoteKind) (number : ℕ) (shown : Bool) → number < 1000000 →
    IsSmallReferenceIn (reference_of kind number shown)
reference_small None number shown low = tt
reference_small (Some Auto) number shown low = record { number = low }
reference_small (Some Custom) number shown low = record { number = tt }

pub record IsSmallSeen (seen : Seen) : Type 0 where
  pub glyph : IsSmallIn seen.glyph
  pub reference : IsSmallReferenceIn seen.reference

few_before : (manner : Manner) (front : List Item) → (front_of manner front).numbered ≤ length front
few_before manner front = count_by-le-length (λ item. is_auto_reference (reference_kind manner item.note)) front

item_small : (manner : Manner) (format : CharFormat) (front : Front) (item : Item) → front.numbered + 1 < 1000000 →
    IsSmallSeen (seen_as manner format front item)
item_small manner format front item low = record {
  glyph =
      visible_small (reference_kind manner item.note) (front.numbered + 1)
      (visible_glyph manner.fonts format (is_some item.sect) item.unit) low
      (glyph_small manner.fonts format (is_some item.sect) item.unit);
  reference = reference_small (reference_kind manner item.note) (front.numbered + 1) _ low;
}

pub items_small : (formats : Formats) (manner : Manner) (istd : ℕ) (front items : List Item) →
    length front + length items < 999999 → All IsSmallSeen (seen_from formats manner istd front items)
unfolding seen_from
items_small formats manner istd front [] few = All-nil IsSmallSeen
items_small formats manner istd front (item ∷ items) few =
    All-cons IsSmallSeen (seen_as manner (formats istd item.chp) (front_of manner front) item)
    (seen_from formats manner istd (front ++ item ∷ []) items)
    (item_small manner (formats istd item.chp) (front_of manner front) item
    (omega (arith, few, few_before manner front)))
    (items_small formats manner istd (front ++ item ∷ []) items (omega (arith, few, length-append front (item ∷ []))))

pub seen_long : (formats : Formats) (manner : Manner) (istd : ℕ) (front items : List Item) →
    length (seen_from formats manner istd front items) ≡ length items
unfolding seen_from
seen_long formats manner istd front [] = refl
seen_long formats manner istd front (item ∷ items) =
    ap suc (seen_long formats manner istd (front ++ item ∷ []) items)

one_small : (glyph : Option Glyph) (glyphs : List Glyph) → IsSmallIn glyph → All IsSmall glyphs →
    All IsSmall (cons_option glyph glyphs)
one_small None glyphs small are = are
one_small (Some glyph) glyphs small are = All-cons IsSmall glyph glyphs small are

pub glyphs_small : (items : List Seen) → All IsSmallSeen items → All IsSmall (glyphs_in items)
glyphs_small [] are = All-nil IsSmall
glyphs_small (item ∷ items) are =
    one_small (if item.is_shown then item.glyph else None) (glyphs_in items)
    (either_small item.is_shown item.glyph None (All-head IsSmallSeen item items are).glyph tt)
    (glyphs_small items (All-tail IsSmallSeen item items are))

fewer : {A : Type 0} (x : Option A) (xs : List A) (n : ℕ) → length xs ≤ n → length (cons_option x xs) ≤ suc n
fewer None xs n few = omega (arith, few)
fewer (Some x) xs n few = omega (arith, few)

pub glyphs_few : (items : List Seen) → length (glyphs_in items) ≤ length items
glyphs_few [] = omega arith
glyphs_few (item ∷ items) =
    fewer (if item.is_shown then item.glyph else None) (glyphs_in items) (length items) (glyphs_few items)

pub references_few : (items : List Seen) → length (references_in items) ≤ length items
references_few [] = omega arith
references_few (item ∷ items) = fewer item.reference (references_in items) (length items) (references_few items)

one_reference : (reference : Option Reference) (references : List Reference) → IsSmallReferenceIn reference →
    All IsSmallReference references → All IsSmallReference (cons_option reference references)
one_reference None references small are = are
one_reference (Some reference) references small are = All-cons IsSmallReference reference references small are

pub references_small : (items : List Seen) → All IsSmallSeen items → All IsSmallReference (references_in items)
references_small [] are = All-nil IsSmallReference
references_small (item ∷ items) are =
    one_reference item.reference (references_in items) (All-head IsSmallSeen item items are).reference
    (references_small items (All-tail IsSmallSeen item items are))

-- ---- labels

-- each is one character
abbrev IsOne : Glyph → Type 0
IsOne glyph = (in_cell : Bool) → length (glyph_text in_cell glyph) ≤ 1

abbrev IsOneIn : Option Glyph → Type 0
IsOneIn None = ⊤
IsOneIn (Some glyph) = IsOne glyph

sizes_one : (in_cell : Bool) (glyphs : List Glyph) → All IsOne glyphs → sizes in_cell glyphs ≤ length glyphs
sizes_one in_cell [] are = omega arith
sizes_one in_cell (glyph ∷ glyphs) are =
    let long : length (glyph_text in_cell glyph) + sizes in_cell glyphs ≤ suc (length glyphs) =
    omega (
      arith,
      All-head IsOne glyph glyphs are in_cell,
      sizes_one in_cell glyphs (All-tail IsOne glyph glyphs are),
    ) in
    long

either_one : (test : Bool) (one other : Option Glyph) → IsOneIn one → IsOneIn other →
    IsOneIn (if test then one else other)
either_one true one other a b = a
either_one false one other a b = b

unit_one : (unit : ℕ) → IsOne (Unit unit)
unit_one unit in_cell = omega arith

tab_one : IsOne Tab
tab_one in_cell = omega arith

line_one : IsOne LineBreak
line_one in_cell = omega arith

page_one : IsOne PageBreak
page_one in_cell = omega arith

control_one : (unit : ℕ) (ends_section : Bool) → IsOneIn (control_glyph unit ends_section)
control_one unit ends_section =
    either_one (unit == 0x09) (Some Tab)
    (if unit == 0x0B || unit == 0x0E then Some LineBreak else
    if unit == 0x0C && not ends_section then Some PageBreak else if unit == 0x1E then Some (Unit 0x2011) else None)
    tab_one
    (either_one (unit == 0x0B || unit == 0x0E) (Some LineBreak)
    (if unit == 0x0C && not ends_section then Some PageBreak else if unit == 0x1E then Some (Unit 0x2011) else None)
    line_one
    (either_one (unit == 0x0C && not ends_section) (Some PageBreak)
    (if unit == 0x1E then Some (Unit 0x2011) else None) page_one
    (either_one (unit == 0x1E) (Some (Unit 0x2011)) None (unit_one 0x2011) tt)))

label_one : (unit : ℕ) → IsOneIn (label_glyph unit)
label_one unit =
    either_one (nat_le 0xF000 unit && nat_le unit 0xF0FF) (Some (Unit 0x2022)) (unit_glyph unit true) (unit_one 0x2022)
    (either_one (nat_lt unit 0x20) (control_glyph unit true)
    (Some (Unit (if is_windows unit then windows_unit unit else unit))) (control_one unit true)
    (unit_one (if is_windows unit then windows_unit unit else unit)))

one_more : (glyph : Option Glyph) (glyphs : List Glyph) → IsOneIn glyph → All IsOne glyphs →
    All IsOne (cons_option glyph glyphs)
one_more None glyphs one are = are
one_more (Some glyph) glyphs one are = All-cons IsOne glyph glyphs one are

units_one : (units : List ℕ) → All IsOne (filter_map label_glyph units)
units_one [] = All-nil IsOne
units_one (unit ∷ units) =
    one_more (label_glyph unit) (filter_map label_glyph units) (label_one unit) (units_one units)

units_few : (units : List ℕ) → length (filter_map label_glyph units) ≤ length units
units_few [] = omega arith
units_few (unit ∷ units) = fewer (label_glyph unit) (filter_map label_glyph units) (length units) (units_few units)

pub label_size : (in_cell : Bool) (units : List ℕ) → length (glyphs_text in_cell (label_glyphs units)) ≤ length units + 1
label_size in_cell units =
    let glyphs = filter_map label_glyph units in
    let one : All IsOne (label_glyphs units) =
    All-append IsOne glyphs (Unit 0x20 ∷ []) (units_one units)
    (All-cons IsOne (Unit 0x20) [] (unit_one 0x20) (All-nil IsOne)) in
    omega (
      arith,
      glyphs_size in_cell (label_glyphs units),
      sizes_one in_cell (label_glyphs units) one,
      units_few units,
      length-append glyphs (Unit 0x20 ∷ []),
    )
