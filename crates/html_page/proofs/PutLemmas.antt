-- Pieces of a page put one behind the other, and elements that are closed and opened.
use Rattle.std.proofs.Common.{◌≡◌, ℕ, zero, suc, ◌+◌, ◌/◌, ◌%◌, ◌==◌, ◌<◌, ◌≤◌, Bool, true, false, not, ◌&&◌, List}
use Rattle.std.proofs.Common.{[], ◌∷◌, ◌++◌, map, Option, Some, None}
use Rattle.std.proofs.Common.{refl, sym, ap, subst, ◌∙◌, append_assoc, arith, length, take, drop, take_all}
use Rattle.std.specs.Prelude.{if◌then◌else◌, codes, nat_le, nat_lt, slice_index, slice_range, ◌-◌}
use Rattle.std.specs.Str.{IsAscii}
use Rattle.std.specs.List.{list_all}
use Rattle.std.proofs.lemmas.Bool.{ltb-true}
use Rattle.std.proofs.lemmas.Bool.Decides.{nat_tests}
use Rattle.std.specs.Fmt.{decimal, digits, digits_onto, digit_glyph}
use Rattle.std.proofs.lemmas.List.{append-nil, map-append, length-take-le, take_more}
use Rattle.std.proofs.lemmas.List.Concat.{flat_map-append}
use Rattle.doc_outer.specs.declared.sink.Sink.{Ghosts}
use Rattle.page_out.specs.declared.page.Page.{Page}
use Rattle.page_out.specs.Printed.{Prints}
use Rattle.page_out.proofs.Public.{put_then, put_none}
use Rattle.html_text.specs.Tokens.{Token, Character, Tag, escaped, escaped_text, printed, printed_token}
use Rattle.view_paths.specs.Paths.{PathPlace, last_path}
use Rattle.view_paths.specs.Events.{Event, Turn, Leaf, Open, Close, closes, opens, transition, turns, leaf}
use Rattle.view_paths.specs.Events.{events_up_to}
use Rattle.view_paths.specs.Turns.{IsSharedFront, IsFront}
use Rattle.view_paths.proofs.Public.{events_up_to-append, last_path-append, transition-shared, closes-next, closes-none}
use Rattle.view_paths.proofs.Public.{take-closed, opens-next, opens-none}
use Rattle.view_places.specs.declared.element.Element.{Element}
use Rattle.view_places.specs.declared.glyph.Glyph.{Glyph}
use Rattle.view_places.specs.declared.glyph.Glyph.TheVariants.{Unit, Tab, LineBreak, PageBreak, NoteMark, Picture}
use Rattle.view_places.specs.declared.glyph.Glyph.TheVariants.{Object}
use Rattle.view_places.specs.Same.{same}
use Rattle.html_page.specs.declared.printer.HtmlPage.{HtmlPage}
use Rattle.glyph_units.specs.Glyphs.{unit_in}
use Rattle.view_places.specs.declared.element.Paragraph.{Paragraph}
use Rattle.html_page.specs.Tags.{attribute, attributes_text, optional, paragraph_attributes, reach_attributes}
use Rattle.view_places.specs.declared.element.Span.{Span}
use Rattle.glyph_units.specs.Units.{unit_text, unit_half}
use Rattle.html_page.specs.Pages.{Events, Places, characters, close_tokens, open_tokens, event_tokens, event_half}
use Rattle.html_page.specs.Pages.{glyph_tokens, glyph_half, other_tokens, tokens_of, half_of}
use Rattle.html_page.specs.Printed.{PutsEvents, PutsPlaces}
use Rattle.doc_pictures.specs.Files.{ImageFiles, image_files}
use Rattle.html_page.specs.declared.source.Source.{Source}
use Rattle.html_page.specs.Sources.{PageSource, page_source_of}
use Rattle.doc_bits.proofs.Public.{and_true, and_first, and_second, not_true}
use Rattle.text_codes.specs.Halves.{half_text}

-- ---- tokens one after another

pub printed-append : (xs ys : List Token) → printed (xs ++ ys) ≡ printed xs ++ printed ys
printed-append xs ys = flat_map-append printed_token xs ys

pub tokens_of-append : (source : PageSource) (half : Option ℕ) (xs ys : Events) → tokens_of source half (xs ++ ys) ≡
    tokens_of source half xs ++ tokens_of source (half_of half xs) ys
unfolding tokens_of half_of
tokens_of-append source half [] ys = refl
tokens_of-append source half (event ∷ xs) ys =
    ap (λ (more : List Token). event_tokens source half event ++ more) (tokens_of-append source (event_half half
    event) xs ys)
    ∙ sym (append_assoc (event_tokens source half event) (tokens_of source (event_half half event) xs) (tokens_of
    source (half_of (event_half half event) xs) ys))

pub half_of-append : (half : Option ℕ) (xs ys : Events) → half_of half (xs ++ ys) ≡ half_of (half_of half xs) ys
unfolding half_of
half_of-append half [] ys = refl
half_of-append half (event ∷ xs) ys = half_of-append (event_half half event) xs ys

tokens_of-one : (source : PageSource) (half : Option ℕ) (event : Event Element Glyph) → tokens_of source half (event ∷
    []) ≡ event_tokens source half event
unfolding tokens_of
tokens_of-one source half event = append-nil (event_tokens source half event)

half_of-one : (half : Option ℕ) (event : Event Element Glyph) → half_of half (event ∷ []) ≡ event_half half event
unfolding half_of
half_of-one half event = refl

-- ---- pieces

pub tokens_then : {K : Type 0} (sink : Ghosts K) (a b c : K) (p q r : Page) (xs ys : List Token) → Prints sink a p b q
    (printed
    xs) → Prints sink b q c r (printed ys) → Prints sink a p c r (printed (xs ++ ys))
tokens_then sink a b c p q r xs ys one other =
    subst (λ (text : List ℕ). Prints sink a p c r text) (sym (printed-append xs ys)) (put_then sink a b c p q r
    (printed xs)
    (printed ys) one other)

-- a text that is another one
pub put_as : {K : Type 0} (sink : Ghosts K) (a b : K) (p q : Page) (xs ys : List ℕ) → xs ≡ ys → Prints sink a p b q xs →
    Prints sink a p b q ys
put_as sink a b p q xs ys is put = subst (λ (text : List ℕ). Prints sink a p b q text) is put

pub tokens_none : {K : Type 0} (sink : Ghosts K) (at : K) (page : Page) → Prints sink at page at page (printed [])
tokens_none sink at page = put_none sink at page

-- ---- events

none_put : {K : Type 0} (sink : Ghosts K) (at : K) (html left : HtmlPage) → left.page ≡ html.page → left.half ≡
    html.half → left.source ≡ html.source →
    PutsEvents sink at html at left [] left.path
unfolding tokens_of half_of
none_put sink at html left page half source = record {
  prints =
      subst (λ (p : Page). Prints sink at html.page at p (printed (tokens_of (page_source_of html.source) html.half
      []))) (sym
      page) (put_none sink at html.page);
  half = half;
  path = refl;
  source = source;
}

pub events_then : {K : Type 0} (sink : Ghosts K) (a b c : K) (p q r : HtmlPage) (xs ys : Events) (first second : List
    Element) →
    PutsEvents sink a p b q xs first → PutsEvents sink b q c r ys second → PutsEvents sink a p c r (xs ++ ys) second
events_then sink a b c p q r xs ys first second one other = record {
  prints =
      subst (λ (tokens : List Token). Prints sink a p.page c r.page (printed tokens)) (sym (tokens_of-append
      (page_source_of p.source) p.half xs ys))
      (tokens_then sink a b c p.page q.page r.page (tokens_of (page_source_of p.source) p.half xs) (tokens_of
      (page_source_of p.source)
      (half_of p.half xs) ys) one.prints
      (subst (λ (s : Source). Prints sink b q.page c r.page (printed (tokens_of (page_source_of s) (half_of p.half xs)
      ys)))
      one.source (subst (λ (h : Option ℕ). Prints sink b q.page c r.page (printed (tokens_of (page_source_of q.source) h
      ys)))
      one.half other.prints)));
  half = other.half ∙ ap (λ (h : Option ℕ). half_of h ys) one.half ∙ sym (half_of-append p.half xs ys);
  path = other.path;
  source = other.source ∙ one.source;
}

pub one_event : {K : Type 0} (sink : Ghosts K) (a b : K) (html left : HtmlPage) (event : Event Element Glyph) (path :
    List
    Element) → Prints sink a html.page b left.page (printed (event_tokens (page_source_of html.source) html.half event))
    →
    left.half ≡ event_half html.half event → left.path ≡ path → left.source ≡ html.source → PutsEvents sink
    a html b left (event ∷ []) path
one_event sink a b html left event path prints half is source = record {
  prints =
      subst (λ (tokens : List Token). Prints sink a html.page b left.page (printed tokens)) (sym (tokens_of-one
      (page_source_of html.source) html.half event)) prints;
  half = half ∙ sym (half_of-one html.half event);
  path = is;
  source = source;
}

-- the same events and the same path by other words
pub puts_as : {K : Type 0} (sink : Ghosts K) (a b : K) (html left : HtmlPage) (xs ys : Events) (one other : List
    Element) → xs ≡
    ys → one ≡ other → PutsEvents sink a html b left xs one → PutsEvents sink a html b left ys other
puts_as sink a b html left xs ys one other is path puts =
    subst (λ (events : Events). PutsEvents sink a html b left events other) is (subst (λ (p : List Element).
    PutsEvents sink a
    html b left xs p) path puts)

-- ---- elements that are closed

pub close_done : {K : Type 0} (sink : Ghosts K) (at : K) (html left : HtmlPage) (count : ℕ) → left.page ≡ html.page →
    left.half
    ≡ html.half → left.path ≡ html.path → left.source ≡ html.source → length html.path ≤ count → PutsEvents sink at html at left (map Turn (closes
    (take
    count html.path) (drop count html.path))) (take count html.path)
close_done sink at html left count page half path source short =
    let no : Events = [] in
    puts_as sink at at html left no (map Turn (closes (take count html.path) (drop count html.path))) left.path (take
    count
    html.path) (ap (map Turn) (sym (closes-none html.path count short))) (path ∙ sym (take_all count html.path short))
    (none_put sink at html left page half source)

pub close_step : {K : Type 0} (sink : Ghosts K) (a b c : K) (html next left : HtmlPage) (new : List Element) (e :
    Element)
    (count : ℕ) → html.path ≡ new ++ e ∷ [] → count ≤ length new → Prints sink a html.page b next.page (printed
    (characters
    (half_text html.half) ++ close_tokens e)) → next.path ≡ new → next.half ≡ None → next.source ≡
    html.source → PutsEvents sink b next c left
    (map Turn
    (closes (take count next.path) (drop count next.path))) (take count next.path) → PutsEvents sink a html c left
    (map Turn
    (closes (take count html.path) (drop count html.path))) (take count html.path)
close_step sink a b c html next left new e count is within prints path half source rest =
    let event : Event Element Glyph = Turn (Close new e) in
    let first : PutsEvents sink a html b next (event ∷ []) new = one_event sink a b html next event new prints half
    path source in
    let more : Events = map Turn (closes (take count new) (drop count new)) in
    let second : PutsEvents sink b next c left more (take count new) =
    subst (λ (p : List Element). PutsEvents sink b next c left (map Turn (closes (take count p) (drop count p))) (take
    count
    p)) path rest in
    let and_true : PutsEvents sink a html c left (event ∷ more) (take count new) =
    events_then sink a b c html next left (event ∷ []) more new (take count new) first second in
    puts_as sink a c html left (event ∷ more) (map Turn (closes (take count html.path) (drop count html.path))) (take
    count
    new) (take count html.path) (ap (map Turn) (sym (closes-next html.path new e count is within))) (sym (take-closed
    html.path new e count is within)) and_true

-- ---- elements that are opened

pub open_done : {K : Type 0} (sink : Ghosts K) (at : K) (html left : HtmlPage) (to : List Element) → left.page ≡
    html.page →
    left.half ≡ html.half → left.path ≡ html.path → left.source ≡ html.source → html.path ≡ to → PutsEvents sink at html at left (map Turn (opens
    html.path
    (drop (length html.path) to))) to
open_done sink at html left to page half path source is =
    let no : Events = [] in
    puts_as sink at at html left no (map Turn (opens html.path (drop (length html.path) to))) left.path to (ap (map
    Turn) (sym
    (opens-none html.path to is))) (path ∙ is) (none_put sink at html left page half source)

pub open_step : {K : Type 0} (sink : Ghosts K) (a b c : K) (html next left : HtmlPage) (new to : List Element) (e :
    Element) →
    new ≡ html.path ++ e ∷ [] → IsFront new to → Prints sink a html.page b next.page (printed (characters (half_text
    html.half)
    ++ open_tokens html.source.document.now e)) → next.path ≡ new → next.half ≡ None → next.source ≡ html.source →
    PutsEvents sink b next c left (map Turn (opens next.path
    (drop
    (length next.path) to))) to → PutsEvents sink a html c left (map Turn (opens html.path (drop (length html.path)
    to))) to
open_step sink a b c html next left new to e is front prints path half source rest =
    let event : Event Element Glyph = Turn (Open html.path e) in
    let first : PutsEvents sink a html b next (event ∷ []) new = one_event sink a b html next event new prints half
    path source in
    let more : Events = map Turn (opens new (drop (length new) to)) in
    let second : PutsEvents sink b next c left more to =
    subst (λ (p : List Element). PutsEvents sink b next c left (map Turn (opens p (drop (length p) to))) to) path rest
    in
    puts_as sink a c html left (event ∷ more) (map Turn (opens html.path (drop (length html.path) to))) to to (ap (map
    Turn)
    (sym (opens-next html.path new to e is front))) refl (events_then sink a b c html next left (event ∷ []) more new to
    first second)

-- ---- from a path to another one

pub way_put : {K : Type 0} (sink : Ghosts K) (a b c : K) (html next left : HtmlPage) (to : List Element) (count : ℕ) →
    IsSharedFront
    same html.path to count → PutsEvents sink a html b next (map Turn (closes (take count html.path) (drop count
    html.path)))
    (take count html.path) → PutsEvents sink b next c left (map Turn (opens next.path (drop (length next.path) to)))
    to →
    PutsEvents sink a html c left (turns same html.path to) to
way_put sink a b c html next left to count shared one other =
    let front = take count html.path in
    let closed : Events = map Turn (closes front (drop count html.path)) in
    let opened : Events = map Turn (opens front (drop count to)) in
    let long : length front ≡ count = length-take-le count html.path shared.within in
    let second : PutsEvents sink b next c left opened to =
    subst (λ (n : ℕ). PutsEvents sink b next c left (map Turn (opens front (drop n to))) to) long (subst (λ (p : List
    Element).
    PutsEvents sink b next c left (map Turn (opens p (drop (length p) to))) to) one.path other) in
    let is : closed ++ opened ≡ turns same html.path to =
    sym (map-append {B = Event Element Glyph} Turn (closes front (drop count html.path)) (opens front (drop count
    to))) ∙ ap
    (map {B = Event Element Glyph} Turn) (sym (transition-shared same html.path to count shared)) in
    puts_as sink a c html left (closed ++ opened) (turns same html.path to) to to is refl (events_then sink a b c html
    next
    left closed opened front to one second)

-- ---- a place

abbrev place_of : List Element → Option Glyph → Places
place_of path glyph = record { path = path; glyph = glyph } ∷ []

pub place_bare : {K : Type 0} (sink : Ghosts K) (a b : K) (html left : HtmlPage) (to : List Element) → PutsEvents sink
    a html b
    left (turns same html.path to) to → PutsPlaces sink a html b left (place_of to None)
place_bare sink a b html left to puts =
    puts_as sink a b html left (turns same html.path to) (events_up_to same html.path (place_of to None)) to to (sym
    (append-nil (turns same html.path to))) refl puts

pub place_shown : {K : Type 0} (sink : Ghosts K) (a b c : K) (html next left : HtmlPage) (to : List Element) (g :
    Glyph) →
    PutsEvents sink a html b next (turns same html.path to) to → Prints sink b next.page c left.page (printed
    (glyph_tokens (image_files next.source.images)
    next.half g)) → left.path ≡ next.path → left.half ≡ glyph_half next.half g → left.source ≡ next.source →
    PutsPlaces sink a html c left
    (place_of to
    (Some g))
place_shown sink a b c html next left to g puts prints path half source =
    let event : Event Element Glyph = Leaf to g in
    let shown : PutsEvents sink b next c left (event ∷ []) to =
    one_event sink b c next left event to prints half (path ∙ puts.path) source in
    events_then sink a b c html next left (turns same html.path to) (event ∷ []) to to puts shown

-- places one after another
pub places_none : {K : Type 0} (sink : Ghosts K) (at : K) (html : HtmlPage) → PutsPlaces sink at html at html []
places_none sink at html = none_put sink at html html refl refl refl

pub places_then : {K : Type 0} (sink : Ghosts K) (a b c : K) (p q r : HtmlPage) (xs ys : Places) → PutsPlaces sink a p
    b q xs →
    PutsPlaces sink b q c r ys → PutsPlaces sink a p c r (xs ++ ys)
places_then sink a b c p q r xs ys one other =
    let second : PutsEvents sink b q c r (events_up_to same (last_path p.path xs) ys) (last_path (last_path p.path xs)
    ys) =
    subst (λ (path : List Element). PutsEvents sink b q c r (events_up_to same path ys) (last_path path ys)) one.path
    other in
    puts_as sink a c p r (events_up_to same p.path xs ++ events_up_to same (last_path p.path xs) ys) (events_up_to
    same p.path
    (xs ++ ys)) (last_path (last_path p.path xs) ys) (last_path p.path (xs ++ ys)) (sym (events_up_to-append same
    p.path xs
    ys)) (sym (last_path-append p.path xs ys)) (events_then sink a b c p q r (events_up_to same p.path xs)
    (events_up_to same
    (last_path p.path xs) ys) (last_path p.path xs) (last_path (last_path p.path xs) ys) one second)

-- ---- tags

-- a start tag by its pieces
pub open_pieces : (name attributes : List ℕ) → (60 ∷ []) ++ (name ++ (attributes ++ 62 ∷ [])) ≡ (60 ∷ ((name ++
    attributes) ++ 62
    ∷ [])) ++ []
open_pieces name attributes =
    ap (λ (text : List ℕ). 60 ∷ text) (sym (append_assoc name attributes (62 ∷ []))) ∙ sym (append-nil (60 ∷ ((name ++
    attributes) ++ 62 ∷ [])))

pub end_pieces : (name : List ℕ) → (60 ∷ 47 ∷ []) ++ (name ++ 62 ∷ []) ≡ (60 ∷ ((47 ∷ name) ++ 62 ∷ [])) ++ []
end_pieces name = sym (append-nil (60 ∷ ((47 ∷ name) ++ 62 ∷ [])))

pub four_put : {K : Type 0} (sink : Ghosts K) (a b c d e : K) (p q r s t : Page) (ws xs ys zs : List ℕ) → Prints sink
    a p b q ws
    → Prints sink b q c r xs → Prints sink c r d s ys → Prints sink d s e t zs → Prints sink a p e t (ws ++ (xs ++ (ys
    ++ zs)))
four_put sink a b c d e p q r s t ws xs ys zs one two three four =
    put_then sink a b e p q t ws (xs ++ (ys ++ zs)) one (put_then sink b c e q r t xs (ys ++ zs) two (put_then sink c
    d e r s
    t ys zs three four))

-- a value that ends in a number
pub value_pieces : (front digits rest : List ℕ) → (front ++ digits) ++ (34 ∷ rest) ≡ front ++ ((digits ++ 34 ∷ []) ++
    rest)
value_pieces front digits rest =
    append_assoc front digits (34 ∷ rest) ∙ ap (λ (text : List ℕ). front ++ text) (sym (append_assoc digits (34 ∷ [])
    rest))

-- an attribute that may be there
pub optional_text : (there : Bool) (text : List ℕ) → (if there then 32 ∷ text else []) ≡ attributes_text (optional
    there text)
optional_text true text = sym (append-nil (32 ∷ text))
optional_text false text = refl

attributes-append : (xs ys : List (List ℕ)) → attributes_text (xs ++ ys) ≡ attributes_text xs ++ attributes_text ys
attributes-append xs ys = flat_map-append (λ (attribute : List ℕ). 32 ∷ attribute) xs ys

pub paragraph_pieces : (p : Paragraph) → (if nat_le 7 p.level then 32 ∷ attribute (codes "aria-level") (decimal
    p.level) else
    []) ++ ((if p.right_to_left then 32 ∷ attribute (codes "dir") (codes "rtl") else []) ++ (if p.breaks_page then 32 ∷
    attribute (codes "style") (codes "break-before:page") else [])) ≡ attributes_text (paragraph_attributes p)
paragraph_pieces p =
    let level = attribute (codes "aria-level") (decimal p.level) in
    let rtl = attribute (codes "dir") (codes "rtl") in
    let break = attribute (codes "style") (codes "break-before:page") in
    rw (optional_text (nat_le 7 p.level) level, optional_text p.right_to_left rtl, optional_text p.breaks_page break)
    (sym
    (attributes-append (optional (nat_le 7 p.level) level) (optional p.right_to_left rtl ++ optional p.breaks_page
    break) ∙ ap
    (λ (text : List ℕ). attributes_text (optional (nat_le 7 p.level) level) ++ text) (attributes-append (optional
    p.right_to_left rtl) (optional p.breaks_page break))))

pub reach_pieces : (span : Span) → (if nat_le 2 span.columns then 32 ∷ attribute (codes "colspan") (decimal
    span.columns) else []) ++ (if nat_le 2 span.rows then 32 ∷ attribute (codes "rowspan") (decimal span.rows) else [])
    ≡ attributes_text (reach_attributes span)
reach_pieces span =
    let columns = attribute (codes "colspan") (decimal span.columns) in
    let rows = attribute (codes "rowspan") (decimal span.rows) in
    rw (optional_text (nat_le 2 span.columns) columns, optional_text (nat_le 2 span.rows) rows) (sym (attributes-append
    (optional (nat_le 2 span.columns) columns) (optional (nat_le 2 span.rows) rows)))

-- ---- texts of ASCII

all-drop : (p : ℕ → Bool) (count : ℕ) (text : List ℕ) → list_all p text ≡ true → list_all p (drop count text) ≡ true
all-drop p zero text is = is
all-drop p (suc count) [] is = refl
all-drop p (suc count) (code ∷ text) is = all-drop p count text (and_second (p code) (list_all p text) is)

all-take : (p : ℕ → Bool) (count : ℕ) (text : List ℕ) → list_all p text ≡ true → list_all p (take count text) ≡ true
all-take p zero text is = refl
all-take p (suc count) [] is = refl
all-take p (suc count) (code ∷ text) is =
    and_true (p code) (list_all p (take count text)) (and_first (p code) (list_all p text) is) (all-take p count text
    (and_second (p code) (list_all p text) is))

pub all-slice : (p : ℕ → Bool) (text : List ℕ) (from to : ℕ) → list_all p text ≡ true → list_all p (slice_range text
    from to) ≡ true
all-slice p text from to is = all-take p (to - from) (drop from text) (all-drop p from text is)

abbrev is_ascii : ℕ → Bool
is_ascii code = nat_lt code 128

pub ascii_all : (text : List ℕ) → list_all is_ascii text ≡ true → IsAscii text
ascii_all [] is i = omega arith
ascii_all (code ∷ text) is zero = ltb-true code 128 (and_first (is_ascii code) (list_all is_ascii text) is)
ascii_all (code ∷ text) is (suc i) = ascii_all text (and_second (is_ascii code) (list_all is_ascii text) is) i

pub ascii_slice : (text : List ℕ) (from to : ℕ) → list_all is_ascii text ≡ true → IsAscii (slice_range text from to)
ascii_slice text from to is = ascii_all (slice_range text from to) (all-slice is_ascii text from to is)

-- ---- digits represent themselves

abbrev pub is_plain : ℕ → Bool
is_plain code = not (code == 38) && (not (code == 60) && (not (code == 62) && not (code == 34)))

escaped-plain : (code : ℕ) → is_plain code ≡ true → escaped code ≡ code ∷ []
escaped-plain code is =
    let three = not (code == 60) && (not (code == 62) && not (code == 34)) in
    let two = not (code == 62) && not (code == 34) in
    let rest = and_second (not (code == 38)) three is in
    let last = and_second (not (code == 60)) two rest in
    rw (
      not_true (code == 38) (and_first (not (code == 38)) three is),
      not_true (code == 60) (and_first (not (code == 60)) two
          rest),
      not_true (code == 62) (and_first (not (code == 62)) (not (code == 34)) last),
      not_true (code == 34) (and_second (not
          (code == 62)) (not (code == 34)) last),
    ) refl

pub printed-plain : (text : List ℕ) → list_all is_plain text ≡ true → printed (characters text) ≡ text
printed-plain [] is = refl
printed-plain (code ∷ text) is =
    ap (λ (front : List ℕ). front ++ printed (characters text)) (escaped-plain code (and_first (is_plain code)
    (list_all is_plain
    text) is)) ∙ ap (λ (rest : List ℕ). code ∷ rest) (printed-plain text (and_second (is_plain code) (list_all
    is_plain text) is))

digit_is_plain : (d : ℕ) → is_plain (digit_glyph false d) ≡ true
digit_is_plain d = grind (arith, nat_tests)

plain-digits_onto : (k n : ℕ) (acc : List ℕ) → list_all is_plain acc ≡ true → list_all is_plain (digits_onto k 10
    false n acc) ≡
    true
plain-digits_onto zero n acc h = h
plain-digits_onto (suc k) n acc h =
    let next : list_all is_plain (digit_glyph false (n % 10) ∷ acc) ≡ true =
    and_true (is_plain (digit_glyph false (n % 10))) (list_all is_plain acc) (digit_is_plain (n % 10)) h in
    elim (n / 10 == 0) as (λ (b : Bool). list_all is_plain (if b then digit_glyph false (n % 10) ∷ acc else
    digits_onto k 10 false
    (n / 10) (digit_glyph false (n % 10) ∷ acc)) ≡ true) [
      | true ↦ next
      | false ↦ plain-digits_onto k (n / 10) (digit_glyph false (n % 10) ∷ acc) next
    ]

pub printed-decimal : (n : ℕ) → printed (characters (decimal n)) ≡ decimal n
unfolding digits
printed-decimal n = printed-plain (decimal n) (plain-digits_onto 64 n [] refl)

-- ---- glyphs

pub other_glyph : (images : ImageFiles) (half : Option ℕ) (g : Glyph) → unit_in g ≡ None →
    glyph_tokens images half g ≡ characters (half_text half) ++ other_tokens images g
other_glyph images half (Unit unit) is = absurd (cc (is))
other_glyph images half Tab is = refl
other_glyph images half LineBreak is = refl
other_glyph images half PageBreak is = refl
other_glyph images half (NoteMark number) is = refl
other_glyph images half (Picture place) is = refl
other_glyph images half Object is = refl

pub other_half : (half : Option ℕ) (g : Glyph) → unit_in g ≡ None → glyph_half half g ≡ None
other_half half (Unit unit) is = absurd (cc (is))
other_half half Tab is = refl
other_half half LineBreak is = refl
other_half half PageBreak is = refl
other_half half (NoteMark number) is = refl
other_half half (Picture place) is = refl
other_half half Object is = refl

pub unit_glyph : (images : ImageFiles) (half : Option ℕ) (g : Glyph) (unit : ℕ) → unit_in g ≡ Some unit →
    glyph_tokens images half g ≡ characters
    (unit_text
    half unit)
unit_glyph images half (Unit other) unit is =
    let e : other ≡ unit = cc (is) in ap (λ (u : ℕ). characters (unit_text half u)) e
unit_glyph images half Tab unit is = absurd (cc (is))
unit_glyph images half LineBreak unit is = absurd (cc (is))
unit_glyph images half PageBreak unit is = absurd (cc (is))
unit_glyph images half (NoteMark number) unit is = absurd (cc (is))
unit_glyph images half (Picture place) unit is = absurd (cc (is))
unit_glyph images half Object unit is = absurd (cc (is))

pub unit_glyph_half : (half : Option ℕ) (g : Glyph) (unit : ℕ) → unit_in g ≡ Some unit → glyph_half half g ≡ unit_half
    half unit
unit_glyph_half half (Unit other) unit is = let e : other ≡ unit = cc (is) in ap (unit_half half) e
unit_glyph_half half Tab unit is = absurd (cc (is))
unit_glyph_half half LineBreak unit is = absurd (cc (is))
unit_glyph_half half PageBreak unit is = absurd (cc (is))
unit_glyph_half half (NoteMark number) unit is = absurd (cc (is))
unit_glyph_half half (Picture place) unit is = absurd (cc (is))
unit_glyph_half half Object unit is = absurd (cc (is))

-- ---- values of attributes

pub printed-characters : (text : List ℕ) → printed (characters text) ≡ escaped_text text
printed-characters [] = refl
printed-characters (code ∷ text) = ap (λ (more : List ℕ). escaped code ++ more) (printed-characters text)

-- ---- units one by one

characters-append : (xs ys : List ℕ) → characters (xs ++ ys) ≡ characters xs ++ characters ys
characters-append xs ys = map-append {B = Token} Character xs ys

pub characters_then : {K : Type 0} (sink : Ghosts K) (a b c : K) (p q r : Page) (xs ys : List ℕ) →
    Prints sink a p b q (printed (characters xs)) → Prints sink b q c r (printed (characters ys)) →
    Prints sink a p c r (printed (characters (xs ++ ys)))
characters_then sink a b c p q r xs ys one other =
    put_as sink a c p r (printed (characters xs ++ characters ys)) (printed (characters (xs ++ ys)))
    (ap printed (sym (characters-append xs ys)))
    (tokens_then sink a b c p q r (characters xs) (characters ys) one other)

-- what was put of a text, where some of it is left
pub record UnitsAt {K : Type 0} (sink : Ghosts K) (a : K) (p : Page) (b : K) (q : Page) (whole rest : List ℕ) : Type 0 where
  pub text : List ℕ
  pub puts : Prints sink a p b q (printed (characters text))
  pub left : text ++ rest ≡ whole

pub units_start : {K : Type 0} (sink : Ghosts K) (a : K) (p : Page) (whole : List ℕ) → UnitsAt sink a p a p whole whole
units_start sink a p whole = record { text = []; puts = put_none sink a p; left = refl }

-- some more of it
pub units_on : {K : Type 0} (sink : Ghosts K) (a b c : K) (p q r : Page) (whole rest more left : List ℕ) →
    rest ≡ more ++ left → UnitsAt sink a p b q whole rest → Prints sink b q c r (printed (characters more)) →
    UnitsAt sink a p c r whole left
units_on sink a b c p q r whole rest more left is at put = record {
  text = at.text ++ more;
  puts = characters_then sink a b c p q r at.text more at.puts put;
  left = append_assoc at.text more left ∙ ap (λ (xs : List ℕ). at.text ++ xs) (sym is) ∙ at.left;
}

-- the last of it
pub units_put : {K : Type 0} (sink : Ghosts K) (a b c : K) (p q r : Page) (whole rest : List ℕ) →
    UnitsAt sink a p b q whole rest → Prints sink b q c r (printed (characters rest)) →
    Prints sink a p c r (printed (characters whole))
units_put sink a b c p q r whole rest at put =
    put_as sink a c p r (printed (characters (at.text ++ rest))) (printed (characters whole))
    (ap (λ (text : List ℕ). printed (characters text)) at.left) (characters_then sink a b c p q r at.text rest at.puts put)
