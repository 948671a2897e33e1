-- Items that are seen as their units, one by one and together.
use Rattle.std.proofs.Common.{◌≡◌, ◌∙◌, ℕ, zero, suc, ◌+◌, ◌-◌, ◌<◌, ◌≤◌, Bool, true, false, not, ◌&&◌, ◌||◌, ◌==◌, List, [], ◌∷◌}
use Rattle.std.proofs.Common.{◌++◌, length, take, drop, refl, sym, ap, subst, append_assoc, arith, Some, None}
use Rattle.std.proofs.Common.{length-take}
use Rattle.std.specs.Prelude.{if◌then◌else◌, is_some, nat_le, nat_lt, slice_get, slice_index, slice_range}
use Rattle.std.specs.Char.{IsScalar}
use Rattle.std.specs.List.{All}
use Rattle.std.proofs.Common.{inl, inr, append-nil}
use Rattle.std.proofs.lemmas.Bool.{and_parts, cases_lt, le-leb, le-ltb, lt-ltb, ltb-false}
use Rattle.std.proofs.lemmas.Bool.Decides.{nat_tests}
use Rattle.std.proofs.lemmas.List.{get_or-drop, get_or-take}
use Rattle.std.proofs.lemmas.Option.{get_or_from_slice_get}
use Rattle.doc_bits.proofs.Public.{get-map, there_is, range_split, second_false, and_false, not_true, none_is}
use Rattle.doc_outer.specs.declared.sink.Sink.{Ghosts}
use Rattle.doc_columns.specs.declared.walk.Parts.{Parts}
use Rattle.doc_columns.specs.Walks.{items_in, AreFullParts}
use Rattle.doc_columns.proofs.Public.{items_long, units_are}
use Rattle.page_out.specs.declared.page.Page.{Page}
use Rattle.page_out.specs.Printed.{Prints}
use Rattle.std.proofs.lemmas.List.Elements.{All-from_get_or, filter_map-append}
use Rattle.doc_model.specs.declared.item.Item.{Item}
use Rattle.plain_doc.specs.Rows.{is_byte_one, mark_value_in}
use Rattle.char_formats.specs.declared.format.CharFormat.{CharFormat}
use Rattle.doc_columns.specs.Attached.{attached_of}
use Rattle.doc_columns.specs.declared.attached.Attached.{Attached}
use Rattle.field_links.specs.OpenFields.{after_unit, is_in_results}
use Rattle.view_places.specs.declared.glyph.Glyph.TheVariants.{Unit}
use Rattle.doc_view.specs.declared.paragraph.Saying.{Saying}
use Rattle.doc_view.specs.declared.reading.Front.{Front}
use Rattle.doc_view.specs.declared.reading.Manner.{Manner}
use Rattle.doc_view.specs.declared.reading.Seen.{Seen}
use Rattle.doc_view.specs.declared.references.Reference.{Reference}
use Rattle.doc_view.specs.declared.text.Course.{Course}
use Rattle.doc_view.specs.Blocks.{IsItself, is_itself, shows_units}
use Rattle.doc_view.specs.Course.{HasAttached, HasFormat, IsCourse, PutsItems, is_numbered, with_reference}
use Rattle.doc_view.specs.Glyphs.{control_glyph, is_windows, stand_in_glyph, unit_glyph, drawn_unit}
use Rattle.doc_view.specs.Glyphs.{text_unit}
use Rattle.symbol_fonts.specs.Characters.{is_sign}
use Rattle.symbol_fonts.specs.Fonts.{symbol_font}
use Rattle.symbol_fonts.proofs.Public.{sign_none, not_below}
use Rattle.doc_view.specs.Glyphs.{windows_unit}
use Rattle.doc_view.specs.Lines.{IsSaying, Says, begun_front, shown_after, shown_said}
use Rattle.doc_view.specs.Seen.{Formats, counts, is_note, reference_kind, reference_of, references_in, seen_as}
use Rattle.doc_view.specs.Seen.{visible}
use Rattle.doc_view.proofs.CourseLemmas.{course_on}
use Rattle.doc_view.proofs.RangeLemmas.{one_range, seen_one, seen_range, seen_then}
use Rattle.doc_view.proofs.SayingLemmas.{says_shown, says_then}
use Rattle.text_codes.specs.Halves.{replacement, is_high, is_surrogate}

-- ---- what such a unit is not

-- no half of a character, and no sign
abbrev no_part : ℕ → Bool
no_part unit = not (is_surrogate unit) && not (is_sign unit)

-- at or above a space
above_control : (unit : ℕ) → is_itself unit ≡ true → nat_le 0x20 unit ≡ true
above_control unit e = (and_parts (nat_le 0x20 unit) (not (is_windows unit) && no_part unit) e).0

no_windows : (unit : ℕ) → is_itself unit ≡ true → is_windows unit ≡ false
no_windows unit e =
    let more = (and_parts (nat_le 0x20 unit) (not (is_windows unit) && no_part unit) e).1 in
    not_true (is_windows unit) (and_parts (not (is_windows unit)) (no_part unit) more).0

is_no_part : (unit : ℕ) → is_itself unit ≡ true → no_part unit ≡ true
is_no_part unit e =
    let more = (and_parts (nat_le 0x20 unit) (not (is_windows unit) && no_part unit) e).1 in
    (and_parts (not (is_windows unit)) (no_part unit) more).1

no_surrogate : (unit : ℕ) → is_itself unit ≡ true → is_surrogate unit ≡ false
no_surrogate unit e =
    not_true (is_surrogate unit) (and_parts (not (is_surrogate unit)) (not (is_sign unit)) (is_no_part unit e)).0

no_sign : (unit : ℕ) → is_itself unit ≡ true → is_sign unit ≡ false
no_sign unit e =
    not_true (is_sign unit) (and_parts (not (is_surrogate unit)) (not (is_sign unit)) (is_no_part unit e)).1

not_equal : (unit control : ℕ) → control < 0x20 → nat_le 0x20 unit ≡ true → (unit == control) ≡ false
not_equal unit control low high = grind (arith, nat_tests)

not_high : (unit : ℕ) → is_surrogate unit ≡ false → is_high unit ≡ false
not_high unit low = grind (arith, nat_tests)

-- ---- what is seen of its item

-- an item that is seen as this unit
abbrev pub unit_seen : CharFormat → ℕ → Seen
unit_seen format unit = record { is_shown = true; glyph = Some (Unit unit); reference = None; format = format }

-- the parts of the test
record Shows (manner : Manner) (format : CharFormat) (front : Front) (attached : Attached) : Type 0 where
  field : attached.fld ≡ None
  note : reference_kind manner attached.note ≡ None
  results : front.in_results ≡ true
  seen : (manner.hidden || not format.hidden) ≡ true
  symbol : format.symbol ≡ None
  label : (is_note manner.kind && front.behind_label) ≡ false

shows_by : (manner : Manner) (format : CharFormat) (front : Front) (attached : Attached) →
    shows_units manner format front attached ≡ true → Shows manner format front attached
shows_by manner format front attached e =
    let label = not (is_note manner.kind && front.behind_label) in
    let symbol = not (is_some format.symbol) in
    let seen = manner.hidden || not format.hidden in
    let note = not (is_some (reference_kind manner attached.note)) in
    let field = not (is_some attached.fld) in
    let one = and_parts field (note && (front.in_results && (seen && (symbol && label)))) e in
    let two = and_parts note (front.in_results && (seen && (symbol && label))) one.1 in
    let three = and_parts front.in_results (seen && (symbol && label)) two.1 in
    let four = and_parts seen (symbol && label) three.1 in
    let five = and_parts symbol label four.1 in
    record {
      field = none_is attached.fld (not_true (is_some attached.fld) one.0);
      note =
          none_is (reference_kind manner attached.note) (not_true (is_some (reference_kind manner attached.note))
          two.0);
      results = three.0;
      seen = four.0;
      symbol = none_is format.symbol (not_true (is_some format.symbol) five.0);
      label = not_true (is_note manner.kind && front.behind_label) five.1;
    }

no_label : (note space behind : Bool) → (note && behind) ≡ false → (note && (space && behind)) ≡ false
no_label false space behind e = refl
no_label true false behind e = refl
no_label true true behind e = e

pub seen_itself : (manner : Manner) (format : CharFormat) (front : Front) (attached : Attached) (item : Item) →
    shows_units manner format front attached ≡ true → attached_of item ≡ attached → is_itself item.unit ≡ true →
    seen_as manner format front item ≡ unit_seen format item.unit
seen_itself manner format front attached item shows same itself =
    let is = shows_by manner format front attached shows in
    let unit = item.unit in
    let high = above_control unit itself in
    let field : item.fld ≡ None = ap (λ (b : Attached). b.fld) same ∙ is.field in
    let kind : reference_kind manner item.note ≡ None = ap (λ (b : Attached). reference_kind manner b.note) same ∙
    is.note in
    let two : (unit == 0x02) ≡ false = not_equal unit 0x02 (omega arith) high in
    let space : Bool = unit == 0x20 || unit == 0x09 in
    let label : (is_note manner.kind && ((unit == 0x02) || (space && front.behind_label))) ≡ false =
    (λ i. is_note manner.kind && (two i || (space && front.behind_label)))
    ∙ no_label (is_note manner.kind) space front.behind_label is.label in
    let row : Bool = is_byte_one (mark_value_in item.mark 0x2417) in
    let mark : ((unit == 0x07) && row) ≡ false = λ i. not_equal unit 0x07 (omega arith) high i && row in
    let stand_in : (format.special && ((unit == 0x01) || (unit == 0x08))) ≡ false =
    (λ i. format.special && (not_equal unit 0x01 (omega arith) high i || not_equal unit 0x08 (omega arith) high i))
    ∙ and_false format.special in
    let drawn : drawn_unit manner.fonts format unit ≡ unit =
    (λ i. if not_below unit high i then unit else text_unit manner.fonts format.font (is.symbol i) unit)
    ∙ sign_none (symbol_font manner.fonts format.font) unit (no_sign unit itself) in
    let glyph : visible (reference_kind manner item.note) (front.numbered + 1)
    (if (format.special && ((unit == 0x01) || (unit == 0x08))) then stand_in_glyph format else unit_glyph
    (drawn_unit manner.fonts format unit) (is_some item.sect))
    ≡ Some (Unit unit) =
    (λ i. visible (kind i) (front.numbered + 1)
    (if stand_in i then stand_in_glyph format else unit_glyph (drawn i) (is_some item.sect)))
    ∙ (λ i. if not_below unit high i then control_glyph unit (is_some item.sect) else Some
    (Unit (if no_windows unit itself i then windows_unit unit else unit))) in
    λ i. record {
      is_shown =
          counts manner.kind (glyph i)
          && ((not (is_some (field i)) && (is.results i && (is.seen i && not (label i)))) && not (mark i));
      glyph = glyph i;
      reference =
          reference_of (kind i) (front.numbered + 1)
          (not (is_some item.fld) && (front.in_results && ((manner.hidden || not format.hidden)
          && not (is_note manner.kind && ((unit == 0x02) || (space && front.behind_label))))));
      format = format;
    }

-- ---- behind it

-- behind a number of such items
abbrev pub behind_units : Course → ℕ → Course
behind_units course place = record course {
  place = place;
  front = record course.front {
    behind_label = false;
  };
}

pub still_shows : (manner : Manner) (format : CharFormat) (front : Front) (attached : Attached) →
    shows_units manner format front attached ≡ true →
    shows_units manner format (record front { behind_label = false }) attached ≡ true
still_shows manner format front attached shows =
    let is = shows_by manner format front attached shows in
    λ i. not (is_some (is.field i)) && (not (is_some (is.note i)) && (is.results i && (is.seen i
    && (not (is_some (is.symbol i)) && not (and_false (is_note manner.kind) i)))))

course_itself : (manner : Manner) (items : List Item) (course : Course) (format : CharFormat) (attached : Attached)
    (item : Item) → IsCourse manner items course → slice_get items course.place ≡ Some item →
    shows_units manner format course.front attached ≡ true → attached_of item ≡ attached → is_itself item.unit ≡ true →
    IsCourse manner items (behind_units course (course.place + 1))
course_itself manner items course format attached item is here shows same itself =
    let by = shows_by manner format course.front attached shows in
    let unit = item.unit in
    let field : item.fld ≡ None = ap (λ (b : Attached). b.fld) same ∙ by.field in
    let kind : reference_kind manner item.note ≡ None = ap (λ (b : Attached). reference_kind manner b.note) same ∙
    by.note in
    let two : (unit == 0x02) ≡ false = not_equal unit 0x02 (omega arith) (above_control unit itself) in
    let results : is_in_results course.fields ≡ course.front.in_results =
    ap is_in_results is.fields ∙ sym (ap (λ (f : Front). f.in_results) is.front) in
    let none : course.front.numbered + 0 ≡ course.front.numbered = omega arith in
    subst (λ (c : Course). IsCourse manner items c)
    ((λ i. record course {
      place = course.place + 1;
      fields = after_unit course.place unit (field i) course.fields;
      front = record {
        in_results = is_in_results (after_unit course.place unit (field i) course.fields);
        behind_label = two i;
        numbered = course.front.numbered + (if is_numbered (reference_of (kind i) 0 false) then 1 else 0);
      };
      references = with_reference course.references (reference_of (kind i) 0 false);
    })
    ∙ (λ i. record course {
      place = course.place + 1;
      front = record { in_results = results i; behind_label = false; numbered = none i };
    }))
    (course_on manner items course item 0 false is here)

-- ---- what is said of it

says_itself : (p : Saying) (format : CharFormat) (unit : ℕ) → IsSaying p → p.half ≡ None → is_itself unit ≡ true →
    Says p (unit_seen format unit ∷ []) (record p { begun = true }) (begun_front p ++ unit ∷ [])
says_itself p format unit is whole itself =
    let low = no_surrogate unit itself in
    let after : shown_after p (Some (Unit unit)) ≡ record p { begun = true } =
    (λ i. shown_after (record p { half = whole i }) (Some (Unit unit)))
    ∙ (λ i. record p { begun = true; half = if not_high unit low i then Some unit else None })
    ∙ (λ i. record p { begun = true; half = sym whole i }) in
    let said : shown_said p (Some (Unit unit)) ≡ begun_front p ++ unit ∷ [] =
    (λ i. shown_said (record p { half = whole i }) (Some (Unit unit)))
    ∙ (λ i. begun_front p ++ (if not_high unit low i then [] else (if low i then replacement else unit) ∷ [])) in
    subst (λ (x : Saying × List ℕ). Says p (unit_seen format unit ∷ []) x.0 x.1) (λ i. (after i, said i))
    (says_shown p (unit_seen format unit) is refl)

-- ---- one behind the other

-- at a place there is such an item, with this beside it
pub record IsUnitAt (items : List Item) (units : List ℕ) (attached : Attached) (place : ℕ) : Type 0 where
  pub item : Item
  pub here : slice_get items place ≡ Some item
  pub unit : slice_get units place ≡ Some item.unit
  pub same : attached_of item ≡ attached
  pub itself : is_itself item.unit ≡ true

-- from a place on there are, up to another
abbrev pub AreUnits : List Item → List ℕ → Attached → ℕ → ℕ → Type 0
AreUnits items units attached from until = (k : ℕ) → from ≤ k → k < until → IsUnitAt items units attached k

pub units_course : (manner : Manner) (items : List Item) (units : List ℕ) (course : Course) (format : CharFormat)
    (attached : Attached) (n : ℕ) → IsCourse manner items course →
    shows_units manner format course.front attached ≡ true →
    AreUnits items units attached course.place (course.place + suc n) →
    IsCourse manner items (behind_units course (course.place + suc n))
units_course manner items units course format attached zero is shows are =
    let one = are course.place (omega arith) (omega arith) in
    course_itself manner items course format attached one.item is one.here shows one.same one.itself
units_course manner items units course format attached (suc n) is shows are =
    let place = course.place + suc n in
    let one = are place (omega arith) (omega arith) in
    let more : place + 1 ≡ course.place + suc (suc n) = omega arith in
    subst (λ (to : ℕ). IsCourse manner items (behind_units course to)) more
    (course_itself manner items (behind_units course place) format attached one.item
    (units_course manner items units course format attached n is shows
    (λ k low below. are k low (omega (arith, below))))
    one.here (still_shows manner format course.front attached shows) one.same one.itself)

-- a paragraph says units
pub record SaysUnits (p : Saying) (seen : List Seen) (units : List ℕ) : Type 0 where
  pub says : Says p seen (record p { begun = true }) (begun_front p ++ units)
  pub none : references_in seen ≡ []

units_then : (p : Saying) (xs ys : List Seen) (us vs : List ℕ) → SaysUnits p xs us →
    SaysUnits (record p { begun = true }) ys vs → SaysUnits p (xs ++ ys) (us ++ vs)
units_then p xs ys us vs one other = record {
  says =
      subst (λ (text : List ℕ). Says p (xs ++ ys) (record p { begun = true }) text)
      (append_assoc (begun_front p) us vs)
      (says_then p (record p { begun = true }) (record p { begun = true }) xs ys (begun_front p ++ us) vs one.says
      other.says);
  none = filter_map-append (λ (s : Seen). s.reference) xs ys ∙ (λ i. one.none i ++ other.none i);
}

unit_said : (formats : Formats) (manner : Manner) (istd : ℕ) (items : List Item) (units : List ℕ) (format : CharFormat)
    (attached : Attached) (course : Course) (p : Saying) (one : IsUnitAt items units attached course.place) →
    IsCourse manner items course → shows_units manner format course.front attached ≡ true →
    formats istd one.item.chp ≡ format → IsSaying p → p.half ≡ None →
    SaysUnits p (seen_range formats manner istd items course.place (course.place + 1))
    (slice_range units course.place (course.place + 1))
unit_said formats manner istd items units format attached course p one is shows formed saying whole =
    let unit = one.item.unit in
    let seen : seen_range formats manner istd items course.place (course.place + 1) ≡ unit_seen format unit ∷ [] =
    seen_one formats manner istd items course.place one.item one.here
    ∙ (λ i. seen_as manner (formed i) (sym is.front i) one.item ∷ [])
    ∙ ap (λ (s : Seen). s ∷ []) (seen_itself manner format course.front attached one.item shows one.same one.itself) in
    let range : slice_range units course.place (course.place + 1) ≡ unit ∷ [] =
    one_range units course.place unit one.unit in
    record {
      says =
          subst (λ (x : List Seen × List ℕ). Says p x.0 (record p { begun = true }) (begun_front p ++ x.1))
          (λ i. (sym seen i, sym range i)) (says_itself p format unit saying whole one.itself);
      none = ap references_in seen;
    }

pub units_said : (formats : Formats) (manner : Manner) (istd : ℕ) (items : List Item) (units : List ℕ)
    (format : CharFormat) (attached : Attached) (course : Course) (p : Saying) (n : ℕ) → IsCourse manner items course →
    shows_units manner format course.front attached ≡ true →
    AreUnits items units attached course.place (course.place + suc n) →
    HasFormat formats istd items course.place (course.place + suc n) format → IsSaying p → p.half ≡ None →
    SaysUnits p (seen_range formats manner istd items course.place (course.place + suc n))
    (slice_range units course.place (course.place + suc n))
units_said formats manner istd items units format attached course p zero is shows are has saying whole =
    let one = are course.place (omega arith) (omega arith) in
    unit_said formats manner istd items units format attached course p one is shows
    (has course.place one.item (omega arith) (omega arith) one.here) saying whole
units_said formats manner istd items units format attached course p (suc n) is shows are has saying whole =
    let from = course.place in
    let place = from + suc n in
    let one = are place (omega arith) (omega arith) in
    let more : place + 1 ≡ from + suc (suc n) = omega arith in
    let begun = record p { begun = true } in
    let before =
    units_said formats manner istd items units format attached course p n is shows
    (λ k low below. are k low (omega (arith, below)))
    (λ k item low below here. has k item low (omega (arith, below)) here) saying whole in
    let last =
    unit_said formats manner istd items units format attached (behind_units course place) begun one
    (units_course manner items units course format attached n is shows
    (λ k low below. are k low (omega (arith, below))))
    (still_shows manner format course.front attached shows)
    (has place one.item (omega arith) (omega arith) one.here)
    (record { behind = λ same. absurd (cc (same)); half = saying.half }) whole in
    let low : from ≤ place = omega arith in
    let high : place ≤ place + 1 = omega arith in
    subst (λ (to : ℕ). SaysUnits p (seen_range formats manner istd items from to) (slice_range units from to)) more
    (subst (λ (x : List Seen × List ℕ). SaysUnits p x.0 x.1)
    (λ i. (
      sym (seen_then formats manner istd items from place (place + 1) low high) i,
      sym (range_split units from place (place + 1) low high) i,
    ))
    (units_then p (seen_range formats manner istd items from place)
    (seen_range formats manner istd items place (place + 1)) (slice_range units from place)
    (slice_range units place (place + 1)) before last))

-- ---- the same by how many there are

pub course_behind : (manner : Manner) (items : List Item) (units : List ℕ) (course : Course) (format : CharFormat)
    (attached : Attached) (count : ℕ) → 0 < count → IsCourse manner items course →
    shows_units manner format course.front attached ≡ true →
    AreUnits items units attached course.place (course.place + count) →
    IsCourse manner items (behind_units course (course.place + count))
course_behind manner items units course format attached zero some is shows are = absurd (omega (arith, some))
course_behind manner items units course format attached (suc n) some is shows are =
    units_course manner items units course format attached n is shows are

said_by : (formats : Formats) (manner : Manner) (istd : ℕ) (items : List Item) (units : List ℕ) (format : CharFormat)
    (attached : Attached) (course : Course) (p : Saying) (count : ℕ) → 0 < count → IsCourse manner items course →
    shows_units manner format course.front attached ≡ true →
    AreUnits items units attached course.place (course.place + count) →
    HasFormat formats istd items course.place (course.place + count) format → IsSaying p → p.half ≡ None →
    SaysUnits p (seen_range formats manner istd items course.place (course.place + count))
    (slice_range units course.place (course.place + count))
said_by formats manner istd items units format attached course p zero some is shows are has saying whole =
    absurd (omega (arith, some))
said_by formats manner istd items units format attached course p (suc n) some is shows are has saying whole =
    units_said formats manner istd items units format attached course p n is shows are has saying whole

-- what was put of them
pub units_pass : {K : Type 0} (sink : Ghosts K) (out next : K) (page after : Page) (p q : Saying) (formats : Formats)
    (manner : Manner) (istd : ℕ) (items : List Item) (units : List ℕ) (format : CharFormat) (attached : Attached)
    (course : Course) (count : ℕ) → 0 < count → IsCourse manner items course →
    shows_units manner format course.front attached ≡ true →
    AreUnits items units attached course.place (course.place + count) →
    HasFormat formats istd items course.place (course.place + count) format → IsSaying p → p.half ≡ None →
    q ≡ record p { begun = true } →
    Prints sink out page next after (begun_front p ++ slice_range units course.place (course.place + count)) →
    PutsItems sink (record { out = out; page = page; saying = p; references = course.references.list })
    (record { out = next; page = after; saying = q; references = course.references.list })
    (seen_range formats manner istd items course.place (course.place + count))
units_pass sink out next page after p q formats manner istd items units format attached course count some is shows are
    has
    saying whole same prints =
    let kept = course.references.list in
    let seen = seen_range formats manner istd items course.place (course.place + count) in
    let text = begun_front p ++ slice_range units course.place (course.place + count) in
    let said =
    said_by formats manner istd items units format attached course p count some is shows are has saying whole in
    record {
      text = text;
      prints = prints;
      says = subst (λ (s : Saying). Says p seen s text) (sym same) said.says;
      references = sym (append-nil kept) ∙ ap (λ (r : List Reference). kept ++ r) (sym said.none);
    }

-- the items of such units of the columns
pub units_at : (parts : Parts) → AreFullParts parts → (attached : Attached) (from until : ℕ) →
    until ≤ length parts.units.now → HasAttached (items_in parts) from until attached →
    ((k : ℕ) → from ≤ k → k < until → IsItself (slice_index parts.units.now k)) →
    AreUnits (items_in parts) parts.units.now attached from until
units_at parts are attached from until within has itself = λ k low below.
    let items = items_in parts in
    let units = parts.units.now in
    let one = there_is items k (omega (arith, items_long parts are, within, below)) in
    let got : slice_get units k ≡ Some one.0.unit =
    subst (λ us. slice_get us k ≡ Some one.0.unit) (units_are parts are)
    (get-map (λ (item : Item). item.unit) items k one.0 one.1) in
    let unit : one.0.unit ≡ slice_index units k = sym (get_or_from_slice_get units k one.0.unit 0 got) in
    record {
      item = one.0;
      here = one.1;
      unit = got;
      same = has k one.0 low below one.1;
      itself = subst (λ u. is_itself u ≡ true) (sym unit) (itself k low below).visible;
    }

-- ---- units of a list that are characters

pub itself_character : (unit : ℕ) → unit < 65536 → is_itself unit ≡ true → IsScalar unit
itself_character unit small itself = elim (cases_lt unit 0xD800) [
  | inl low ↦ rw (lt-ltb unit 0xD800 low) refl
  | inr high ↦
      let above : 0xE000 ≤ unit = ltb-false unit 0xE000
      (second_false (nat_le 0xD800 unit) (nat_lt unit 0xE000) (no_surrogate unit itself) (le-leb 0xD800 unit high)) in
      rw (le-ltb unit 0xD800 high, le-leb 0xE000 unit above, lt-ltb unit 0x110000 (omega (arith, small))) refl
]

pub range_characters : (units : List ℕ) (from until : ℕ) → until ≤ length units →
    ((k : ℕ) → from ≤ k → k < until → IsItself (slice_index units k)) → All IsScalar (slice_range units from until)
range_characters units from until within are =
    let rest = drop from units in
    All-from_get_or IsScalar (take (until - from) rest) 0 (λ i below.
    let inside : i < until - from = omega (arith, below, length-take (until - from) rest) in
    subst IsScalar (sym (get_or-take (until - from) rest i 0 inside ∙ get_or-drop from units i 0))
    (are (from + i) (omega arith) (omega (arith, inside))).character)
