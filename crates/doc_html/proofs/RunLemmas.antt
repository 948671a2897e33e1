-- Items that are seen as their units, written together.
use Rattle.std.proofs.Common.{◌≡◌, ◌∙◌, ℕ, zero, suc, ◌+◌, ◌<◌, ◌≤◌, Bool, true, false, not, ◌&&◌, ◌||◌, List, [], ◌∷◌, ◌++◌, length}
use Rattle.std.proofs.Common.{map, take, Option, Some, None, refl, sym, ap, subst, arith, append-nil}
use Rattle.std.specs.Prelude.{if◌then◌else◌, is_some, slice_get, slice_range}
use Rattle.std.proofs.lemmas.List.{length-map, map-append}
use Rattle.std.proofs.lemmas.Option.{slice_get_within}
use Rattle.doc_bits.proofs.Public.{range_split, length_part}
use Rattle.doc_outer.specs.declared.sink.Sink.{Ghosts}
use Rattle.doc_model.specs.declared.item.Item.{Item}
use Rattle.doc_model.specs.declared.item.NoteKind.{NoteKind}
use Rattle.doc_columns.specs.declared.attached.Attached.{Attached}
use Rattle.char_formats.specs.declared.format.CharFormat.{CharFormat}
use Rattle.field_links.specs.declared.places.OpenField.{OpenField}
use Rattle.field_links.specs.OpenFields.{hyperlink_in, open_fields}
use Rattle.view_places.specs.declared.element.Element.{Element}
use Rattle.view_places.specs.declared.element.Link.{Link}
use Rattle.view_places.specs.declared.glyph.Glyph.TheVariants.{Unit}
use Rattle.glyph_units.specs.Glyphs.{unit_places}
use Rattle.form_page.specs.declared.page.FormPage.{FormPage}
use Rattle.form_page.specs.Forms.{Places, PutsPlaces}
use Rattle.form_page.proofs.Public.{places_then}
use Rattle.doc_view.specs.declared.reading.Manner.{Manner}
use Rattle.doc_view.specs.declared.reading.Seen.{Seen}
use Rattle.doc_view.specs.declared.references.Reference.{Reference}
use Rattle.doc_view.specs.declared.text.Course.{Course}
use Rattle.doc_view.specs.Blocks.{shows_units}
use Rattle.doc_view.specs.Course.{HasFormat, IsCourse}
use Rattle.doc_view.specs.Seen.{Formats, references_in, seen_as, some_shown}
use Rattle.doc_view.proofs.Public.{one_range, seen_one, seen_range, seen_then, AreUnits, IsUnitAt, behind_units}
use Rattle.doc_view.proofs.Public.{course_behind, seen_itself, still_shows, unit_seen, units_course}
use Rattle.doc_places.specs.Places.{count_of, format_elements, item_places, items_places, label_places, link_elements}
use Rattle.doc_places.specs.Places.{link_to, up_to_reference}
use Rattle.doc_places.specs.declared.links.Origin.{Origin}
use Rattle.doc_html.specs.declared.reading.Reading.{Reading}
use Rattle.doc_html.specs.Writes.{WrittenAt, IsReading, WritesItems, label_before, links_in}
use Rattle.doc_html.proofs.WriteLemmas.{puts_same, referred_on}

-- ---- what is seen of a run

one_seen : (formats : Formats) (manner : Manner) (istd : ℕ) (items : List Item) (units : List ℕ) (format : CharFormat)
    (attached : Attached) (course : Course) (one : IsUnitAt items units attached course.place) → IsCourse manner items
    course →
    shows_units manner format course.front attached ≡ true → formats istd one.item.chp ≡ format →
    seen_range formats manner istd items course.place (course.place + 1) ≡ map (unit_seen format) (slice_range units
    course.place (course.place + 1))
one_seen formats manner istd items units format attached course one is shows formed =
    let unit = one.item.unit in
    seen_one formats manner istd items course.place one.item one.here
    ∙ (λ i. seen_as manner (formed i) (sym is.front i) one.item ∷ [])
    ∙ ap (λ (s : Seen). s ∷ []) (seen_itself manner format course.front attached one.item shows one.same one.itself)
    ∙ ap (map (unit_seen format)) (sym (one_range units course.place unit one.unit))

run_seen : (formats : Formats) (manner : Manner) (istd : ℕ) (items : List Item) (units : List ℕ) (format : CharFormat)
    (attached : Attached) (course : Course) (n : ℕ) → IsCourse manner items course → shows_units manner format
    course.front
    attached ≡ true → AreUnits items units attached course.place (course.place + suc n) →
    HasFormat formats istd items course.place (course.place + suc n) format →
    seen_range formats manner istd items course.place (course.place + suc n) ≡ map (unit_seen format) (slice_range units
    course.place (course.place + suc n))
run_seen formats manner istd items units format attached course zero is shows are has =
    let one = are course.place (omega arith) (omega arith) in
    one_seen formats manner istd items units format attached course one is shows
    (has course.place one.item (omega arith) (omega arith) one.here)
run_seen formats manner istd items units format attached course (suc n) is shows are has =
    let from = course.place in
    let place = from + suc n in
    let one = are place (omega arith) (omega arith) in
    let more : place + 1 ≡ from + suc (suc n) = omega arith in
    let low : from ≤ place = omega arith in
    let high : place ≤ place + 1 = omega arith in
    let before =
    run_seen formats manner istd items units format attached course n is shows
    (λ k low below. are k low (omega (arith, below)))
    (λ k item low below here. has k item low (omega (arith, below)) here) in
    let last =
    one_seen formats manner istd items units format attached (behind_units course place) one
    (units_course manner items units course format attached n is shows
    (λ k low below. are k low (omega (arith, below))))
    (still_shows manner format course.front attached shows)
    (has place one.item (omega arith) (omega arith) one.here) in
    subst (λ (to : ℕ). seen_range formats manner istd items from to ≡ map (unit_seen format) (slice_range units from to))
    more
    (seen_then formats manner istd items from place (place + 1) low high ∙ (λ i. before i ++ last i)
    ∙ sym (map-append {B = Seen} (unit_seen format) (slice_range units from place) (slice_range units place (place + 1)))
    ∙ ap (map (unit_seen format)) (sym (range_split units from place (place + 1) low high)))

-- ---- the links of a run

pub run_few : (count place more : ℕ) → count ≤ place → count ≤ place + more
run_few count place more few = omega (arith, few)

-- no reference ends in it
pub referred_along : (items : List Item) (units : List ℕ) (attached : Attached) (place count : ℕ) → attached.note ≡ None
    →
    AreUnits items units attached place (place + count) → up_to_reference (take (place + count) items) ≡ up_to_reference
    (take place items)
referred_along items units attached place zero none are =
    let same : place + zero ≡ place = omega arith in ap (λ (n : ℕ). up_to_reference (take n items)) same
referred_along items units attached place (suc n) none are =
    let at = place + n in
    let one = are at (omega arith) (omega arith) in
    let more : at + 1 ≡ place + suc n = omega arith in
    let before = up_to_reference (take at items) in
    ap (λ (k : ℕ). up_to_reference (take k items)) (sym more)
    ∙ sym (referred_on items at one.item attached before one.here one.same refl)
    ∙ ap (λ (note : Option NoteKind). if is_some note then at + 1 else before) none
    ∙ referred_along items units attached place n none (λ k low below. are k low (omega (arith, below)))

-- the fields that are open stay so
fields_along : (manner : Manner) (items : List Item) (units : List ℕ) (course : Course) (format : CharFormat) (attached
    :
    Attached) (count k : ℕ) → k < count → IsCourse manner items course → shows_units manner format course.front attached
    ≡
    true → AreUnits items units attached course.place (course.place + count) → course.fields ≡ open_fields (take
    (course.place + k) items)
fields_along manner items units course format attached count zero below is shows are =
    let same : course.place ≡ course.place + zero = omega arith in
    is.fields ∙ ap (λ (n : ℕ). open_fields (take n items)) same
fields_along manner items units course format attached count (suc k) below is shows are =
    (units_course manner items units course format attached k is shows
    (λ i low small. are i low (omega (arith, small, below)))).fields

link_along : (manner : Manner) (items : List Item) (units : List ℕ) (reading : Reading) (format : CharFormat) (attached
    :
    Attached) (count k : ℕ) → k < count → IsReading manner items reading → shows_units manner format
    reading.course.front
    attached ≡ true → attached.note ≡ None → AreUnits items units attached reading.course.place (reading.course.place +
    count) →
    links_in reading.origin items (reading.course.place + k) ≡ link_to reading.origin.note reading.referred (hyperlink_in
    reading.origin.begin reading.course.fields)
link_along manner items units reading format attached count k below is shows none are =
    let referred = is.referred ∙ sym (referred_along items units attached reading.course.place k none
    (λ i low small. are i low (omega (arith, small, below)))) in
    let fields = fields_along manner items units reading.course format attached count k below is.course shows are in
    λ i. link_to reading.origin.note (sym referred i) (hyperlink_in reading.origin.begin (sym fields i))

-- ---- the places of a run

run_places : (links : ℕ → Option Link) (block : List Element) (count place : ℕ) (format : CharFormat) (link : Option Link)
    (units : List ℕ) → ((k : ℕ) → k < length units → links (place + k) ≡ link) → items_places links block count place (map
    (unit_seen format) units) ≡ unit_places (block ++ (link_elements link ++ format_elements format)) units
unfolding items_places
run_places links block count place format link [] same = refl
run_places links block count place format link (unit ∷ units) same =
    let here : place ≡ place + 0 = omega arith in
    let first : links place ≡ link = ap links here ∙ same 0 (omega arith) in
    let none : Option Reference = None in
    (λ i. item_places block (first i) count (unit_seen format unit) ++ items_places links block (count + count_of none)
    (place + 1) (map (unit_seen format) units))
    ∙ ap (λ (more : Places). item_places block link count (unit_seen format unit) ++ more) (run_places links block (count +
    count_of none) (place + 1) format link units (λ k small.
    let next : (place + 1) + k ≡ place + suc k = omega arith in
    ap links next ∙ same (suc k) (omega (arith, small))))

no_references : (format : CharFormat) (units : List ℕ) → references_in (map (unit_seen format) units) ≡ []
no_references format [] = refl
no_references format (unit ∷ units) = no_references format units

all_shown : (format : CharFormat) (units : List ℕ) → 0 < length units → some_shown (map (unit_seen format) units) ≡ true
all_shown format [] some = absurd (omega (arith, some))
all_shown format (unit ∷ units) some = refl

or_true : (b : Bool) → true ≡ (b || true)
or_true true = refl
or_true false = refl

-- a run was written
places_written : {K : Type 0} (sink : Ghosts K) (out mid next : K) (page said left : FormPage) (begun : Bool) (count place : ℕ)
    (references : List Reference) (links : ℕ → Option Link) (block : List Element) (label : List ℕ) (format :
    CharFormat) (link : Option Link) (units : List ℕ) → 0 < length units → ((k : ℕ) → k < length units → links (place + k)
    ≡ link) → PutsPlaces sink out page mid said (if true && not begun then label_places block label else []) →
    PutsPlaces sink mid said next left (unit_places (block ++ (link_elements link ++ format_elements format)) units) →
    WritesItems sink (record {
      out = out;
      page = page;
      begun = begun;
      count = count;
      place = place;
      references = references;
    })
    (record {
      out = next;
      page = left;
      begun = true;
      count = count;
      place = place + length units;
      references = references;
    }) links block label (map (unit_seen format) units)
places_written sink out mid next page said left begun count place references links block label format link units some
    same first puts =
    let seen = map (unit_seen format) units in
    let places = label_places block label in
    let none : Places = [] in
    let before : Places = if true && not begun then places else none in
    let here = unit_places (block ++ (link_elements link ++ format_elements format)) units in
    let shown = all_shown format units some in
    let no = no_references format units in
    let no_count : length (references_in seen) ≡ 0 = ap length no in
    let long : length seen ≡ length units = length-map units (unit_seen format) in
    record {
      puts =
          puts_same sink out next page left (before ++ here) (label_before begun block label seen ++ items_places links
          block count place seen) (λ i. (if sym shown i && not begun then places else none) ++ sym (run_places links block
          count place format link units same) i)
          (places_then sink out mid next page said left before here first puts);
      begun = or_true begun ∙ ap (λ (b : Bool). begun || b) (sym shown);
      count = omega (arith, no_count);
      place = omega (arith, long);
      references = sym (append-nil references) ∙ ap (λ (r : List Reference). references ++ r) (sym no);
    }

pub run_written : {K : Type 0} (sink : Ghosts K) (out mid next : K) (page said left : FormPage) (reading : Reading)
    (link : Option Link) (block : List Element) (label : List ℕ) (formats : Formats) (manner : Manner) (istd : ℕ) (items :
    List Item) (units : List ℕ) (format : CharFormat) (attached : Attached) (count : ℕ) → 0 < count → IsReading manner
    items
    reading → shows_units manner format reading.course.front attached ≡ true → attached.note ≡ None →
    AreUnits items units attached reading.course.place (reading.course.place + count) →
    HasFormat formats istd items reading.course.place (reading.course.place + count) format →
    link ≡ link_to reading.origin.note reading.referred (hyperlink_in reading.origin.begin reading.course.fields) →
    PutsPlaces sink out page mid said (if true && not reading.begun then label_places block label else []) →
    PutsPlaces sink mid said next left (unit_places (block ++ (link_elements link ++ format_elements format)) (slice_range
    units reading.course.place (reading.course.place + count))) →
    WritesItems sink (record {
      out = out;
      page = page;
      begun = reading.begun;
      count = reading.count;
      place = reading.course.place;
      references = reading.course.references.list;
    })
    (record {
      out = next;
      page = left;
      begun = true;
      count = reading.count;
      place = reading.course.place + count;
      references = reading.course.references.list;
    }) (links_in reading.origin items) block label (seen_range formats manner istd items reading.course.place
    (reading.course.place + count))
run_written sink out mid next page said left reading link block label formats manner istd items units format attached
    zero
    some is shows none are has leads first puts = absurd (omega (arith, some))
run_written sink out mid next page said left reading link block label formats manner istd items units format attached
    (suc n)
    some is shows none are has leads first puts =
    let from = reading.course.place in
    let run = slice_range units from (from + suc n) in
    let last = are (from + n) (omega arith) (omega arith) in
    let within = slice_get_within units (from + n) last.item.unit last.unit in
    let long : length run ≡ suc n = length_part units from (suc n) (omega (arith, within)) in
    let links = links_in reading.origin items in
    let same : (k : ℕ) → k < length run → links (from + k) ≡ link =
    λ k small. link_along manner items units reading format attached (suc n) k (omega (arith, small, long)) is shows
    none are
    ∙ sym leads in
    let end : from + length run ≡ from + suc n = omega (arith, long) in
    let written =
    places_written sink out mid next page said left reading.begun reading.count from reading.course.references.list
    links block label format link run (omega (arith, long)) same first puts in
    subst (λ (seen : List Seen). WritesItems sink (record {
      out = out;
      page = page;
      begun = reading.begun;
      count = reading.count;
      place = from;
      references = reading.course.references.list;
    })
    (record {
      out = next;
      page = left;
      begun = true;
      count = reading.count;
      place = from + suc n;
      references = reading.course.references.list;
    }) links block label seen)
    (sym (run_seen formats manner istd items units format attached reading.course n is.course shows are has))
    (subst (λ (to : ℕ). WritesItems sink (record {
      out = out;
      page = page;
      begun = reading.begun;
      count = reading.count;
      place = from;
      references = reading.course.references.list;
    })
    (record {
      out = next;
      page = left;
      begun = true;
      count = reading.count;
      place = to;
      references = reading.course.references.list;
    }) links block label (map (unit_seen format) run)) end written)
