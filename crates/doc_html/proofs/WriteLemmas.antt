-- Items that are written one after another.
use Rattle.std.proofs.Common.{◌≡◌, ◌∙◌, ℕ, suc, ◌+◌, ◌<◌, ◌≤◌, List, [], ◌∷◌, ◌++◌, length, take, refl, sym, ap, subst}
use Rattle.std.proofs.Common.{arith}
use Rattle.std.proofs.Common.{append_assoc, append-nil, Option, Some, None, length-append, length-take, Bool, true, false, not}
use Rattle.std.proofs.Common.{◌&&◌, ◌||◌}
use Rattle.std.specs.Prelude.{slice_get, if◌then◌else◌, is_some}
use Rattle.view_places.specs.declared.glyph.Glyph.{Glyph}
use Rattle.std.proofs.lemmas.List.Elements.{filter_map-append}
use Rattle.std.proofs.lemmas.Option.{slice_get_within}
use Rattle.doc_outer.specs.declared.sink.Sink.{Ghosts}
use Rattle.doc_model.specs.declared.item.Item.{Item}
use Rattle.doc_columns.specs.Attached.{attached_of}
use Rattle.doc_columns.specs.declared.attached.Attached.{Attached}
use Rattle.doc_columns.specs.declared.walk.Walk.{Walk}
use Rattle.char_formats.specs.declared.format.CharFormat.{CharFormat}
use Rattle.view_places.specs.declared.element.Element.{Element}
use Rattle.form_page.specs.declared.page.FormPage.{FormPage}
use Rattle.form_page.specs.Forms.{Places}
use Rattle.form_page.specs.Forms.{PutsPlaces}
use Rattle.form_page.proofs.Public.{places_none, places_then}
use Rattle.doc_view.specs.declared.reading.Manner.{Manner}
use Rattle.doc_view.specs.declared.reading.Seen.{Seen}
use Rattle.doc_view.specs.declared.references.Reference.{Reference}
use Rattle.doc_view.specs.declared.text.Course.{Course}
use Rattle.doc_view.specs.Course.{IsCourse, with_reference}
use Rattle.doc_view.specs.Kept.{KeptReferences}
use Rattle.doc_view.specs.Seen.{Formats, front_of, references_in, seen_as, some_shown}
use Rattle.doc_view.proofs.Public.{seen_none, seen_one, seen_range, seen_then, course_walk, references_on}
use Rattle.std.proofs.Math.Bool.{or_assoc}
use Rattle.std.proofs.lemmas.List.Folds.{list_any-append}
use Rattle.doc_places.specs.Places.{count_of, item_places, items_places, label_places, link_to, glyph_place}
use Rattle.doc_places.specs.Places.{up_to_reference}
use Rattle.doc_places.proofs.Public.{up_to_reference-more, count_one, items_places-append, items_places-hidden}
use Rattle.doc_places.proofs.Public.{items_places-none, items_places-one}
use Rattle.view_places.specs.declared.element.Link.{Link}
use Rattle.field_links.specs.OpenFields.{hyperlink_in}
use Rattle.doc_places.specs.declared.links.Origin.{Origin}
use Rattle.doc_html.specs.declared.reading.Reading.{Reading}
use Rattle.doc_html.specs.Writes.{WrittenAt, IsReading, WritesItems, label_before, links_in}
use Rattle.doc_bits.proofs.Public.{or_false, take_step}

-- other places that are the same
pub puts_same : {K : Type 0} (sink : Ghosts K) (a b : K) (page left : FormPage) (xs ys : Places) → xs ≡ ys →
    PutsPlaces sink a
    page b left xs → PutsPlaces sink a page b left ys
puts_same sink a b page left xs ys is puts = subst (λ (places : Places). PutsPlaces sink a page b left places) is puts

-- an item that is shown
pub shown_item : (block : List Element) (link : Option Link) (count : ℕ) (seen : Seen) (glyph : Option Glyph) →
    seen.is_shown ≡ true → seen.glyph ≡ glyph → item_places block link count seen ≡ glyph_place block link count seen
    glyph
    ∷ []
shown_item block link count seen glyph is same =
    let none : Places = [] in
    ap (λ (b : Bool). if b then glyph_place block link count seen seen.glyph ∷ [] else none) is ∙ ap (λ (g : Option
    Glyph). glyph_place block link count seen g ∷ []) same

-- ---- a label before the first item that is shown

-- where something was written before, nothing of a label is
pub past_label : (shown : Bool) (label : Places) → (if shown && false then label else []) ≡ []
past_label true label = refl
past_label false label = refl

-- the places of some items, and then of others, where something is shown of them or not
label_then : (begun one other : Bool) (label first second : Places) → (one ≡ false → first ≡ []) →
    ((if one && not begun then label else []) ++ first) ++ ((if other && not (begun || one) then label else []) ++ second)
    ≡ (if (one || other) && not begun then label else []) ++ (first ++ second)
label_then true one other label first second none =
    (λ i. (past_label one label i ++ first) ++ (past_label other label i ++ second))
    ∙ sym (λ i. past_label (one || other) label i ++ (first ++ second))
label_then false true other label first second none =
    (λ i. (label ++ first) ++ (past_label other label i ++ second)) ∙ append_assoc label first second
label_then false false other label first second none =
    let here : Places = if other && true then label else [] in
    (λ i. none refl i ++ (here ++ second)) ∙ sym (λ i. here ++ (none refl i ++ second))

-- nothing was written
pub writes_none : {K : Type 0} (sink : Ghosts K) (a : WrittenAt K) (links : ℕ → Option Link) (block : List Element)
    (label :
    List ℕ) → WritesItems sink a a links block label []
writes_none sink a links block label = record {
  puts =
      puts_same sink a.out a.out a.page a.page [] (items_places links block a.count a.place []) (sym (items_places-none
      links block a.count a.place)) (places_none sink a.out a.page);
  begun = sym (or_false a.begun);
  count = omega arith;
  place = omega arith;
  references = sym (append-nil a.references);
}

-- some items were written, and then others
pub writes_then : {K : Type 0} (sink : Ghosts K) (a b c : WrittenAt K) (links : ℕ → Option Link) (block : List Element)
    (label :
    List ℕ) (xs ys : List Seen) → WritesItems sink a b links block label xs → WritesItems sink b c links block label ys
    → WritesItems
    sink a c links block label (xs ++ ys)
writes_then sink a b c links block label xs ys one other =
    let count = a.count + length (references_in xs) in
    let place = a.place + length xs in
    let first = items_places links block a.count a.place xs in
    let second = items_places links block count place ys in
    let begun = a.begun || some_shown xs in
    let later : PutsPlaces sink b.out b.page c.out c.page (label_before begun block label ys ++ second) =
    subst (λ (n : ℕ). PutsPlaces sink b.out b.page c.out c.page (label_before begun block label ys ++ items_places
    links block count n ys)) one.place (subst (λ (n : ℕ). PutsPlaces sink b.out b.page c.out c.page (label_before begun
    block label ys ++ items_places links block n b.place ys)) one.count (subst (λ (x : Bool). PutsPlaces sink b.out
    b.page c.out c.page (label_before x block label ys ++ items_places links block b.count b.place ys)) one.begun
    other.puts)) in
    let all : references_in (xs ++ ys) ≡ references_in xs ++ references_in ys = filter_map-append (λ (s : Seen).
    s.reference) xs ys
    in
    let long : length (references_in (xs ++ ys)) ≡ length (references_in xs) + length (references_in ys) =
    ap length all ∙ length-append (references_in xs) (references_in ys) in
    let both = length-append xs ys in
    let first_count = one.count in
    let next_count = other.count in
    let first_place = one.place in
    let next_place = other.place in
    let places = label_places block label in
    let whole : (label_before a.begun block label xs ++ first) ++ (label_before begun block label ys ++ second) ≡
    label_before a.begun block label (xs ++ ys) ++ items_places links block a.count a.place (xs ++ ys) =
    label_then a.begun (some_shown xs) (some_shown ys) places first second (items_places-hidden links block a.count
    a.place xs)
    ∙ sym (λ i. (if list_any-append (λ (s : Seen). s.is_shown) xs ys i && not a.begun then places else []) ++ items_places-append links block a.count
    a.place xs ys i)
    in
    record {
      puts =
          puts_same sink a.out c.out a.page c.page ((label_before a.begun block label xs ++ first) ++ (label_before
          begun block label ys ++ second)) (label_before a.begun block label (xs ++ ys) ++ items_places links block
          a.count a.place (xs ++ ys)) whole
          (places_then sink a.out b.out c.out a.page b.page c.page (label_before a.begun block label xs ++ first)
          (label_before begun block label ys ++ second) one.puts later);
      begun =
          other.begun
          ∙ ap (λ (x : Bool). x || some_shown ys) one.begun
          ∙ or_assoc a.begun (some_shown xs) (some_shown ys)
          ∙ sym (ap (λ (x : Bool). a.begun || x) (list_any-append (λ (s : Seen). s.is_shown) xs ys));
      count = omega (arith, first_count, next_count, long);
      place = omega (arith, first_place, next_place, both);
      references =
          other.references
          ∙ ap (λ (r : List Reference). r ++ references_in ys) one.references
          ∙ append_assoc a.references (references_in xs) (references_in ys)
          ∙ ap (λ (r : List Reference). a.references ++ r) (sym all);
    }

-- ---- ranges of items

pub writes_start : {K : Type 0} (sink : Ghosts K) (a : WrittenAt K) (links : ℕ → Option Link) (block : List Element)
    (label : List ℕ) (formats :
    Formats) (manner : Manner) (istd : ℕ) (items : List Item) (place : ℕ) → WritesItems sink a a links block label
    (seen_range
    formats manner istd items place place)
writes_start sink a links block label formats manner istd items place =
    subst (λ (seen : List Seen). WritesItems sink a a links block label seen) (sym (seen_none formats manner istd items
    place))
    (writes_none sink a links block label)

pub writes_further : {K : Type 0} (sink : Ghosts K) (a b c : WrittenAt K) (links : ℕ → Option Link) (block : List
    Element) (label : List ℕ) (formats :
    Formats) (manner : Manner) (istd : ℕ) (items : List Item) (from mid to : ℕ) → from ≤ mid → mid ≤ to →
    WritesItems sink a b links block label (seen_range formats manner istd items from mid) →
    WritesItems sink b c links block label (seen_range formats manner istd items mid to) →
    WritesItems sink a c links block label (seen_range formats manner istd items from to)
writes_further sink a b c links block label formats manner istd items from mid to low high one other =
    subst (λ (seen : List Seen). WritesItems sink a c links block label seen) (sym (seen_then formats manner istd items
    from mid
    to low high))
    (writes_then sink a b c links block label (seen_range formats manner istd items from mid) (seen_range formats manner istd
    items mid to) one other)

pub writes_to : {K : Type 0} (sink : Ghosts K) (a b : WrittenAt K) (links : ℕ → Option Link) (block : List Element)
    (label : List ℕ) (formats :
    Formats) (manner : Manner) (istd : ℕ) (items : List Item) (from mid to : ℕ) → mid ≡ to → WritesItems sink a b links
    block
    label (seen_range formats manner istd items from mid) →
    WritesItems sink a b links block label (seen_range formats manner istd items from to)
writes_to sink a b links block label formats manner istd items from mid to same writes =
    subst (λ (n : ℕ). WritesItems sink a b links block label (seen_range formats manner istd items from n)) same writes

-- the same inside of the same elements
pub writes_in : {K : Type 0} (sink : Ghosts K) (a b : WrittenAt K) (links : ℕ → Option Link) (block other : List
    Element) (label : List ℕ) (seen : List
    Seen) → block ≡ other → WritesItems sink a b links block label seen → WritesItems sink a b links other label seen
writes_in sink a b links block other label seen is writes = subst (λ (path : List Element). WritesItems sink a b links
    path label seen)
    is writes

-- the same in the same paragraph
pub writes_from : {K : Type 0} (sink : Ghosts K) (a b : WrittenAt K) (one other : Origin) (items : List Item) (block :
    List
    Element) (label : List ℕ) (seen : List Seen) → one ≡ other → WritesItems sink a b (links_in one items) block label
    seen →
    WritesItems sink a b (links_in other items) block label seen
writes_from sink a b one other items block label seen is writes =
    subst (λ (origin : Origin). WritesItems sink a b (links_in origin items) block label seen) is writes

-- ---- the item of a place

pub count_few : (reference : Option Reference) → count_of reference ≤ 1
count_few None = omega arith
count_few (Some reference) = omega arith

item_writes : {K : Type 0} (sink : Ghosts K) (out mid next : K) (page said left : FormPage) (begun : Bool) (count place
    : ℕ) (kept : KeptReferences) (links : ℕ → Option Link) (block : List Element) (label : List ℕ) (seen : Seen) →
    PutsPlaces sink out page mid said (if seen.is_shown && not begun then label_places block label else []) →
    PutsPlaces sink mid said next left (item_places block (links place) count seen) →
    WritesItems sink (record {
      out = out;
      page = page;
      begun = begun;
      count = count;
      place = place;
      references = kept.list;
    })
    (record {
      out = next;
      page = left;
      begun = begun || seen.is_shown;
      count = count + count_of seen.reference;
      place = place + 1;
      references = (with_reference kept seen.reference).list;
    }) links block label (seen ∷ [])
item_writes sink out mid next page said left begun count place kept links block label seen first puts =
    let places = label_places block label in
    let here = item_places block (links place) count seen in
    let before : Places = if seen.is_shown && not begun then places else [] in
    record {
      puts =
          puts_same sink out next page left (before ++ here) (label_before begun block label (seen ∷ []) ++ items_places
          links block count place (seen ∷ [])) (λ i. (if sym (or_false seen.is_shown) i && not begun then places else
          []) ++ sym (items_places-one links block count place seen) i)
          (places_then sink out mid next page said left before here first puts);
      begun = ap (λ (b : Bool). begun || b) (sym (or_false seen.is_shown));
      count = ap (λ (n : ℕ). count + n) (sym (count_one seen));
      place = omega arith;
      references = references_on kept seen.reference;
    }

pub item_written : {K : Type 0} (sink : Ghosts K) (out mid next : K) (page said left : FormPage) (begun : Bool)
    (count referred : ℕ) (origin : Origin) (link : Option Link) (block : List Element) (label : List ℕ) (manner : Manner) (items :
    List Item) (course : Course) (format : CharFormat) (item : Item) (seen : Seen) (formats : Formats) (istd : ℕ)
    → IsCourse manner items course → slice_get items course.place ≡ Some item → seen ≡ seen_as manner format
    course.front item → formats istd item.chp ≡ format →
    referred ≡ up_to_reference (take course.place items) →
    link ≡ link_to origin.note referred (hyperlink_in origin.begin course.fields) →
    PutsPlaces sink out page mid said (if seen.is_shown && not begun then label_places block label else []) →
    PutsPlaces sink mid said next left (item_places block link count seen) →
    WritesItems sink (record {
      out = out;
      page = page;
      begun = begun;
      count = count;
      place = course.place;
      references = course.references.list;
    })
    (record {
      out = next;
      page = left;
      begun = begun || seen.is_shown;
      count = count + count_of seen.reference;
      place = course.place + 1;
      references = (with_reference course.references seen.reference).list;
    }) (links_in origin items) block label (seen_range formats manner istd items course.place (course.place + 1))
item_written sink out mid next page said left begun count referred origin link block label manner items course format item
    seen formats istd is here same formed up_to leads first puts =
    let links = links_in origin items in
    let right : link ≡ links course.place =
    leads ∙ (λ i. link_to origin.note (up_to i) (hyperlink_in origin.begin (is.fields i))) in
    subst (λ (all : List Seen). WritesItems sink (record {
      out = out;
      page = page;
      begun = begun;
      count = count;
      place = course.place;
      references = course.references.list;
    })
    (record {
      out = next;
      page = left;
      begun = begun || seen.is_shown;
      count = count + count_of seen.reference;
      place = course.place + 1;
      references = (with_reference course.references seen.reference).list;
    }) links block label all)
    (sym (seen_one formats manner istd items course.place item here
    ∙ (λ i. seen_as manner (formed i) (sym is.front i) item ∷ []) ∙ ap (λ (s : Seen). s ∷ []) (sym same)))
    (item_writes sink out mid next page said left begun count course.place course.references links block label seen
    first (puts_same sink mid next said left (item_places block link count seen) (item_places block (links course.place)
    count seen) (ap (λ (l : Option Link). item_places block l count seen) right) puts))

-- where the last reference ends behind the item
pub referred_on : (items : List Item) (place : ℕ) (item : Item) (attached : Attached) (referred : ℕ) → slice_get items
    place
    ≡ Some item → attached_of item ≡ attached → referred ≡ up_to_reference (take place items) →
    (if is_some attached.note then place + 1 else referred) ≡ up_to_reference (take (place + 1) items)
referred_on items place item attached referred here same is =
    let within = slice_get_within items place item here in
    let front = take place items in
    let long : place + 1 ≡ suc (length front) = omega (arith, length-take place items, within) in
    (λ i. if is_some ((sym same i).note) then long i else is i) ∙ sym (up_to_reference-more front item)
    ∙ ap up_to_reference (sym (take_step items place item here))

-- the walk over the columns is none of where the reading is
pub reading_walk : (manner : Manner) (items : List Item) (reading : Reading) (walk : Walk) → IsReading manner items
    reading →
    IsReading manner items (record reading { course = record reading.course { walk = walk } })
reading_walk manner items reading walk is =
    record { course = course_walk manner items reading.course walk is.course; few = is.few; referred = is.referred }
