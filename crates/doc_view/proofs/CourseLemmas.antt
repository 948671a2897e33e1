-- How a text is gone through.
use Rattle.std.proofs.Common.{◌≡◌, ◌∙◌, ℕ, ◌+◌, ◌<◌, ◌≤◌, List, [], ◌∷◌, ◌++◌, length, take, drop, refl, sym, ap, subst}
use Rattle.std.proofs.Common.{append_assoc, append-nil, arith, Option, Some, None, Bool, cond, length-take, zero-add, ◌==◌}
use Rattle.std.specs.Prelude.{slice_get, slice_index, is_some, if◌then◌else◌}
use Rattle.std.specs.List.{count_by, cons_option}
use Rattle.std.proofs.lemmas.List.Elements.{filter_map-append}
use Rattle.std.proofs.lemmas.List.Sums.{sum_by-append, count_by-le-length}
use Rattle.std.proofs.lemmas.Option.{get_or_from_slice_get, slice_get_within}
use Rattle.doc_bits.proofs.Public.{get-map, there_is, take_step}
use Rattle.run_lists.proofs.Public.{run_and_rest}
use Rattle.doc_model.specs.declared.item.Item.{Item}
use Rattle.doc_model.specs.declared.item.NoteKind.{NoteKind}
use Rattle.doc_model.specs.declared.item.NoteKind.TheVariants.{Auto, Custom}
use Rattle.doc_outer.specs.declared.sink.Sink.{Ghosts}
use Rattle.plain_doc.specs.RulesOfTexts.{last_unit}
use Rattle.prop_map.specs.Settings.{Properties}
use Rattle.char_formats.specs.declared.format.CharFormat.{CharFormat}
use Rattle.doc_columns.specs.Attached.{attached_of}
use Rattle.doc_columns.specs.Columns.{item_of}
use Rattle.doc_columns.specs.declared.attached.Attached.{Attached}
use Rattle.doc_columns.specs.declared.walk.Parts.{Parts}
use Rattle.doc_columns.specs.declared.walk.Walk.{Walk}
use Rattle.doc_columns.specs.Walks.{items_in, AreFullParts}
use Rattle.doc_columns.proofs.Public.{items_long, units_are}
use Rattle.field_links.proofs.Public.{open_fields-more}
use Rattle.field_links.specs.OpenFields.{open_fields, after_unit, is_in_results}
use Rattle.page_out.specs.declared.page.Page.{Page}
use Rattle.doc_view.specs.declared.paragraph.Saying.{Saying}
use Rattle.doc_view.specs.declared.reading.Front.{Front}
use Rattle.doc_view.specs.declared.reading.Manner.{Manner}
use Rattle.doc_view.specs.declared.reading.Seen.{Seen}
use Rattle.doc_view.specs.declared.references.Reference.{Reference}
use Rattle.doc_view.specs.declared.text.Course.{Course}
use Rattle.doc_view.specs.Course.{CourseAt, HasRoomFor, IsCourse, PutsItems, course_after, has_reference, is_numbered}
use Rattle.doc_view.specs.Course.{with_reference}
use Rattle.doc_view.specs.Kept.{KeptReferences}
use Rattle.doc_view.specs.Lines.{IsSaying, Says}
use Rattle.page_out.specs.Printed.{Prints}
use Rattle.doc_view.specs.Seen.{Formats, is_shown, seen_as, front_of, is_auto_reference, is_note_unit, note_unit}
use Rattle.doc_view.specs.Seen.{reference_kind, reference_of}
use Rattle.doc_view.specs.Seen.{references_in}
use Rattle.page_out.proofs.Public.{nothing_put, put_then}
use Rattle.doc_view.proofs.RangeLemmas.{last_is, seen_none, seen_one, seen_range, seen_then}
use Rattle.doc_view.proofs.SayingLemmas.{says_none, says_then}

-- some items were put, and then others
pub passes_then : {K : Type 0} (sink : Ghosts K) (a b c : CourseAt K) (xs ys : List Seen) → PutsItems sink a b xs →
    PutsItems sink b c ys → PutsItems sink a c (xs ++ ys)
passes_then sink a b c xs ys one other = record {
  text = one.text ++ other.text;
  prints = put_then sink a.out b.out c.out a.page b.page c.page one.text other.text one.prints other.prints;
  says = says_then a.saying b.saying c.saying xs ys one.text other.text one.says other.says;
  references =
      other.references
      ∙ ap (λ (r : List Reference). r ++ references_in ys) one.references
      ∙ append_assoc a.references (references_in xs) (references_in ys)
      ∙ ap (λ (r : List Reference). a.references ++ r) (sym (filter_map-append (λ (s : Seen). s.reference) xs ys));
}

-- ---- where the reading is

-- room for a reference of this kind
room_by : (kept : KeptReferences) (kind : Option NoteKind) (number : ℕ) (shown : Bool) → cond (is_some kind) 1 0 ≤ kept.room →
    HasRoomFor kept (reference_of kind number shown)
room_by kept None number shown h = tt
room_by kept (Some Auto) number shown h = h
room_by kept (Some Custom) number shown h = h

room_after : (kept : KeptReferences) (kind : Option NoteKind) (number rest : ℕ) (shown : Bool) →
    cond (is_some kind) 1 0 + rest ≤ kept.room → rest ≤ (with_reference kept (reference_of kind number shown)).room
room_after kept None number rest shown h = omega (arith, h)
room_after kept (Some Auto) number rest shown h = omega (arith, h)
room_after kept (Some Custom) number rest shown h = omega (arith, h)

numbered_by : (kind : Option NoteKind) (number : ℕ) (shown : Bool) →
    is_numbered (reference_of kind number shown) ≡ is_auto_reference kind
numbered_by None number shown = refl
numbered_by (Some Auto) number shown = refl
numbered_by (Some Custom) number shown = refl

-- the references from a place on, and those behind the item there
count_there : (manner : Manner) (items : List Item) (at : ℕ) (item : Item) → slice_get items at ≡ Some item →
    count_by (has_reference manner) (drop at items)
    ≡ cond (has_reference manner item) 1 0 + count_by (has_reference manner) (drop (at + 1) items)
count_there manner items at item here =
    let f : Item → ℕ = λ item. cond (has_reference manner item) 1 0 in
    ap (count_by (has_reference manner)) (run_and_rest items at item here)
    ∙ sum_by-append f (item ∷ []) (drop (at + 1) items)
    ∙ ap (λ (n : ℕ). n + count_by (has_reference manner) (drop (at + 1) items)) (zero-add (f item))

-- room for the reference of the item there
pub room_there : (manner : Manner) (items : List Item) (course : Course) (item : Item) (number : ℕ) (shown : Bool) →
    IsCourse manner items course → slice_get items course.place ≡ Some item →
    HasRoomFor course.references (reference_of (reference_kind manner item.note) number shown)
room_there manner items course item number shown is here =
    let count = count_there manner items course.place item here in
    let room = is.room in
    room_by course.references (reference_kind manner item.note) number shown (omega (arith, count, room))

pub few_numbered : (manner : Manner) (items : List Item) (course : Course) → IsCourse manner items course →
    course.front.numbered ≤ course.place
few_numbered manner items course is =
    let front = take course.place items in
    let same : course.front.numbered ≡ (front_of manner front).numbered = ap (λ (f : Front). f.numbered) is.front in
    let few = count_by-le-length (λ (i : Item). is_auto_reference (reference_kind manner i.note)) front in
    omega (arith, same, few, length-take course.place items)

-- the fields that are open behind an item
fields_on : (items : List Item) (at : ℕ) (item : Item) → slice_get items at ≡ Some item →
    after_unit at item.unit item.fld (open_fields (take at items)) ≡ open_fields (take (at + 1) items)
fields_on items at item here =
    let within = slice_get_within items at item here in
    let long : length (take at items) ≡ at = omega (arith, length-take at items, within) in
    sym (ap open_fields (take_step items at item here)
    ∙ open_fields-more (take at items) item
    ∙ ap (λ (p : ℕ). after_unit p item.unit item.fld (open_fields (take at items))) long)

numbered_on : (manner : Manner) (items : List Item) (at : ℕ) (item : Item) (number : ℕ) (shown : Bool) →
    slice_get items at ≡ Some item →
    (front_of manner (take at items)).numbered + (if is_numbered (reference_of (reference_kind manner item.note) number
    shown) then 1 else 0)
    ≡ (front_of manner (take (at + 1) items)).numbered
numbered_on manner items at item number shown here =
    let auto : Item → Bool = λ item. is_auto_reference (reference_kind manner item.note) in
    let count = count_by auto (take at items) in
    ap (λ (b : Bool). count + (if b then 1 else 0)) (numbered_by (reference_kind manner item.note) number shown)
    ∙ ap (λ (n : ℕ). count + n) (sym (zero-add (cond (auto item) 1 0)))
    ∙ sym (sum_by-append (λ (i : Item). cond (auto i) 1 0) (take at items) (item ∷ []))
    ∙ ap (count_by auto) (sym (take_step items at item here))

label_on : (items : List Item) (at : ℕ) (item : Item) → slice_get items at ≡ Some item →
    (item.unit == note_unit) ≡ is_note_unit (last_unit (take (at + 1) items))
label_on items at item here =
    sym (ap (λ (front : List Item). is_note_unit (last_unit front)) (take_step items at item here)
    ∙ ap is_note_unit (last_is (take at items) item))

-- behind the item there
pub course_on : (manner : Manner) (items : List Item) (course : Course) (item : Item) (number : ℕ) (shown : Bool) →
    IsCourse manner items course → slice_get items course.place ≡ Some item →
    IsCourse manner items
    (course_after course item.unit (attached_of item) (reference_of (reference_kind manner item.note) number shown))
course_on manner items course item number shown is here =
    let at = course.place in
    let kind = reference_kind manner item.note in
    let within = slice_get_within items at item here in
    let count = count_there manner items at item here in
    let room = is.room in
    let fields : after_unit at item.unit item.fld course.fields ≡ open_fields (take (at + 1) items) =
    ap (after_unit at item.unit item.fld) is.fields ∙ fields_on items at item here in
    let numbered : course.front.numbered + (if is_numbered (reference_of kind number shown) then 1 else 0) ≡ (front_of
    manner (take (at + 1) items)).numbered =
    ap (λ (f : Front). f.numbered + (if is_numbered (reference_of kind number shown) then 1 else 0)) is.front
    ∙ numbered_on manner items at item number shown here in
    record {
      within = omega (arith, within);
      fields = fields;
      front = λ i. record {
        in_results = is_in_results (fields i);
        behind_label = label_on items at item here i;
        numbered = numbered i;
      };
      room =
          room_after course.references kind number (count_by (has_reference manner) (drop (at + 1) items)) shown
          (omega (arith, count, room));
    }

-- ---- one item

pub references_on : (kept : KeptReferences) (reference : Option Reference) →
    (with_reference kept reference).list ≡ kept.list ++ cons_option reference []
references_on kept None = sym (append-nil kept.list)
references_on kept (Some reference) = refl

-- what was put of an item
pub item_passes : {K : Type 0} (sink : Ghosts K) (out next : K) (page after : Page) (saying said : Saying)
    (kept : KeptReferences) (seen : Seen) (text : List ℕ) →
    Prints sink out page next after text → Says saying (seen ∷ []) said text →
    PutsItems sink (record { out = out; page = page; saying = saying; references = kept.list })
    (record { out = next; page = after; saying = said; references = (with_reference kept seen.reference).list })
    (seen ∷ [])
item_passes sink out next page after saying said kept seen text prints says = record {
  text = text;
  prints = prints;
  says = says;
  references = references_on kept seen.reference;
}

-- nothing was put
pub passes_none : {K : Type 0} (sink : Ghosts K) (at : CourseAt K) → IsSaying at.saying → PutsItems sink at at []
passes_none sink at is = record {
  text = [];
  prints = nothing_put sink at.out at.page;
  says = says_none at.saying is;
  references = sym (append-nil at.references);
}

-- ---- ranges of items

pub passes_start : {K : Type 0} (sink : Ghosts K) (at : CourseAt K) (formats : Formats) (manner : Manner) (istd : ℕ)
    (items : List Item) (place : ℕ) → IsSaying at.saying →
    PutsItems sink at at (seen_range formats manner istd items place place)
passes_start sink at formats manner istd items place is =
    subst (λ (seen : List Seen). PutsItems sink at at seen) (sym (seen_none formats manner istd items place))
    (passes_none sink at is)

pub passes_further : {K : Type 0} (sink : Ghosts K) (a b c : CourseAt K) (formats : Formats) (manner : Manner) (istd :
    ℕ)
    (items : List Item) (from mid to : ℕ) → from ≤ mid → mid ≤ to →
    PutsItems sink a b (seen_range formats manner istd items from mid) →
    PutsItems sink b c (seen_range formats manner istd items mid to) →
    PutsItems sink a c (seen_range formats manner istd items from to)
passes_further sink a b c formats manner istd items from mid to low high one other =
    subst (λ (seen : List Seen). PutsItems sink a c seen) (sym (seen_then formats manner istd items from mid to low
    high))
    (passes_then sink a b c (seen_range formats manner istd items from mid)
    (seen_range formats manner istd items mid to) one other)

pub passes_to : {K : Type 0} (sink : Ghosts K) (a b : CourseAt K) (formats : Formats) (manner : Manner) (istd : ℕ)
    (items : List Item) (from mid to : ℕ) → mid ≡ to →
    PutsItems sink a b (seen_range formats manner istd items from mid) →
    PutsItems sink a b (seen_range formats manner istd items from to)
passes_to sink a b formats manner istd items from mid to same passes =
    subst (λ (n : ℕ). PutsItems sink a b (seen_range formats manner istd items from n)) same passes

-- ---- the item of a place

-- what is seen of it
pub seen_is : (manner : Manner) (format : CharFormat) (front : Front) (item : Item) (unit : ℕ) (attached : Attached)
    (seen : Seen) → item.unit ≡ unit → attached_of item ≡ attached →
    ((chp : Properties) → seen ≡ seen_as manner format front (item_of unit chp attached)) →
    seen ≡ seen_as manner format front item
seen_is manner format front item unit attached seen unit_is attached_is is =
    is item.chp ∙ (λ i. seen_as manner format front (item_of (sym unit_is i) item.chp (sym attached_is i)))

pub item_room : (manner : Manner) (items : List Item) (course : Course) (format : CharFormat) (item : Item)
    (seen : Seen) → IsCourse manner items course → slice_get items course.place ≡ Some item →
    seen ≡ seen_as manner format course.front item → HasRoomFor course.references seen.reference
item_room manner items course format item seen is here same =
    subst (λ (s : Seen). HasRoomFor course.references s.reference) (sym same)
    (room_there manner items course item (course.front.numbered + 1) (is_shown manner format course.front item) is here)

pub item_course : (manner : Manner) (items : List Item) (course : Course) (format : CharFormat) (item : Item)
    (unit : ℕ) (attached : Attached) (seen : Seen) → IsCourse manner items course →
    slice_get items course.place ≡ Some item → item.unit ≡ unit → attached_of item ≡ attached →
    seen ≡ seen_as manner format course.front item →
    IsCourse manner items (course_after course unit attached seen.reference)
item_course manner items course format item unit attached seen is here unit_is attached_is same =
    subst (λ (c : Course). IsCourse manner items c)
    (λ i. course_after course (unit_is i) (attached_is i) (sym same i).reference)
    (course_on manner items course item (course.front.numbered + 1) (is_shown manner format course.front item) is here)

pub item_said : {K : Type 0} (sink : Ghosts K) (out next : K) (page after : Page) (saying said : Saying)
    (manner : Manner) (items : List Item) (course : Course) (format : CharFormat) (item : Item) (seen : Seen)
    (text : List ℕ) (formats : Formats) (istd : ℕ) → IsCourse manner items course →
    slice_get items course.place ≡ Some item → seen ≡ seen_as manner format course.front item →
    formats istd item.chp ≡ format → Prints sink out page next after text → Says saying (seen ∷ []) said text →
    PutsItems sink (record { out = out; page = page; saying = saying; references = course.references.list })
    (record {
      out = next;
      page = after;
      saying = said;
      references =
          (with_reference course.references seen.reference).list;
    })
    (seen_range formats manner istd items course.place (course.place + 1))
item_said sink out next page after saying said manner items course format item seen text formats istd is here same formed
    prints says =
    subst
    (λ (all : List Seen). PutsItems sink
    (record { out = out; page = page; saying = saying; references = course.references.list })
    (record {
      out = next;
      page = after;
      saying = said;
      references =
          (with_reference course.references seen.reference).list;
    }) all)
    (sym (seen_one formats manner istd items course.place item here
    ∙ (λ i. seen_as manner (formed i) (sym is.front i) item ∷ []) ∙ ap (λ (s : Seen). s ∷ []) (sym same)))
    (item_passes sink out next page after saying said course.references seen text prints says)

-- the walk over the columns is none of it
pub course_walk : (manner : Manner) (items : List Item) (course : Course) (walk : Walk) → IsCourse manner items course →
    IsCourse manner items (record course { walk = walk })
course_walk manner items course walk is =
    record { within = is.within; fields = is.fields; front = is.front; room = is.room }

-- the item of a place of the columns
pub item_there : (parts : Parts) → AreFullParts parts → (place : ℕ) → place < length parts.units.now →
    (item : Item) × ((slice_get (items_in parts) place ≡ Some item) × (item.unit ≡ slice_index parts.units.now place))
item_there parts are place within =
    let items = items_in parts in
    let one = there_is items place (omega (arith, items_long parts are, within)) in
    let got : slice_get parts.units.now place ≡ Some one.0.unit =
    subst (λ (us : List ℕ). slice_get us place ≡ Some one.0.unit) (units_are parts are)
    (get-map (λ (item : Item). item.unit) items place one.0 one.1) in
    (one.0, (one.1, sym (get_or_from_slice_get parts.units.now place one.0.unit 0 got)))
