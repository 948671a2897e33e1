-- How many bytes a page has.
use Rattle.std.proofs.Common.{◌≡◌, ℕ, ◌+◌, ◌-◌, ◌*◌, ◌%◌, ◌^◌, ◌<◌, ◌≤◌, ◌==◌, ◌&&◌, Bool, true, false, List, [], ◌∷◌, ◌++◌, map, length, suc}
use Rattle.std.proofs.Common.{Option, None, Some, refl, sym, ap, ◌∙◌, subst, arith, length-append, length-take, drop, if◌then◌else◌}
use Rattle.std.specs.Prelude.{codes, encode_utf8_all, nat_le, slice_range}
use Rattle.std.specs.Char.{encode_utf8}
use Rattle.std.specs.Fmt.{decimal}
use Rattle.std.specs.List.{All}
use Rattle.std.proofs.lemmas.Fmt.{length-decimal-le}
use Rattle.std.proofs.lemmas.List.{map-append}
use Rattle.std.proofs.lemmas.List.Concat.{flat_map-append}
use Rattle.std.proofs.lemmas.Bool.{leb-true}
use Rattle.html_text.specs.Tokens.{Token, Character, Tag, escaped, escaped_text, printed, printed_token}
use Rattle.view_paths.specs.Events.{Event, Turn, Leaf, Open, Close, events_from}
use Rattle.view_paths.proofs.Public.{event_cost, events_cost, shown_cost, total}
use Rattle.view_paths.specs.Openings.{opened_from}
use Rattle.view_places.specs.declared.element.Element.{Element}
use Rattle.view_places.specs.declared.element.Element.TheVariants.{Notes, Note, Table, TableHead, TableBody, Row, Cell}
use Rattle.view_places.specs.declared.element.Element.TheVariants.{HeadCell, List as AList, Item, Paragraph, Label}
use Rattle.view_places.specs.declared.element.Element.TheVariants.{Reference, BackLink, Bold, Italic, Underline, Strike}
use Rattle.view_places.specs.declared.element.Element.TheVariants.{SmallCaps, Caps, Raised, Lowered, Link, Anchor}
use Rattle.view_places.specs.declared.element.Element.TheVariants.{NestedTable, NestedRow, NestedCell}
use Rattle.view_places.specs.declared.element.Link.{Link as LinkForm}
use Rattle.view_places.specs.declared.element.Paragraph.{Paragraph as ParagraphForm}
use Rattle.view_places.specs.declared.element.Span.{Span}
use Rattle.view_places.specs.declared.glyph.Glyph.{Glyph}
use Rattle.view_places.specs.declared.glyph.Glyph.TheVariants.{Unit, Tab, LineBreak, PageBreak, NoteMark, Picture}
use Rattle.view_places.specs.declared.glyph.Glyph.TheVariants.{Object}
use Rattle.view_places.specs.Same.{same}
use Rattle.view_places.specs.SameLaws.{same_exact}
use Rattle.view_places.proofs.Public.{IsSmall, IsSmallSpan, IsSmallSpanIn}
use Rattle.doc_model.specs.declared.document.Document.{Document}
use Rattle.doc_pictures.specs.declared.names.PictureName.{PictureName}
use Rattle.doc_pictures.specs.Files.{ImageFiles, picture_name_at}
use Rattle.field_links.specs.Urls.{anchor_name}
use Rattle.link_targets.specs.Links.{bookmark_name, instruction_of, url_in}
use Rattle.glyph_units.specs.Units.{unit_half, unit_text, units_text}
use Rattle.glyph_units.proofs.Public.{closed_size, either_size, six_digits, size, size-append, size-decimal, size-one}
use Rattle.glyph_units.proofs.Public.{size_four, unit_length, units_length, waiting}
use Rattle.text_codes.specs.Halves.{half_text}
use Rattle.html_page.specs.Sources.{PageSource}
use Rattle.html_page.specs.Images.{image_attributes, image_url}
use Rattle.html_page.specs.Lengths.{address_bytes, url_bytes}
use Rattle.html_page.specs.Languages.{language_attributes, language_code, language_codes}
use Rattle.html_page.specs.Tags.{anchor_attributes, attribute, attributes_of, attributes_text, ends_line, has_tags}
use Rattle.html_page.specs.Tags.{link_attributes, element_name, optional, paragraph_attributes, paragraph_name}
use Rattle.html_page.specs.Tags.{plain_attributes, reach_attributes, span_attributes, start_text}
use Rattle.html_page.specs.Pages.{Events, Head, Places, back_tokens, body_tokens, characters, close_tokens, end}
use Rattle.html_page.specs.Pages.{end_tokens, event_half, event_tokens, front_tokens, glyph_half, glyph_tokens, half_of}
use Rattle.html_page.specs.Pages.{meta_tokens, open_tokens, other_tokens, page_text, page_tokens, picture_tokens}
use Rattle.html_page.specs.Pages.{start_tag}
use Rattle.html_page.specs.Pages.{start_tokens, style_tokens, tokens_of}
use Rattle.html_page.proofs.CloseLemmas.{by_level}
use Rattle.html_page.proofs.PutLemmas.{printed-append}

-- ---- characters of the document

pub size-escaped : (code : ℕ) → size (escaped code) ≤ 6
unfolding encode_utf8
size-escaped code =
    let last = either_size 6 (code == 34) (codes "&quot;") (code ∷ [])
    (closed_size (codes "&quot;") 6 refl) (omega (arith, size-one code)) in
    let third = either_size 6 (code == 62) (codes "&gt;") (if code == 34 then codes "&quot;" else code ∷ [])
    (closed_size (codes "&gt;") 6 refl) last in
    let second = either_size 6 (code == 60) (codes "&lt;") (if code == 62 then codes "&gt;" else
    if code == 34 then codes "&quot;" else code ∷ [])
    (closed_size (codes "&lt;") 6 refl) third in
    either_size 6 (code == 38) (codes "&amp;") (if code == 60 then codes "&lt;" else
    if code == 62 then codes "&gt;" else if code == 34 then codes "&quot;" else code ∷ [])
    (closed_size (codes "&amp;") 6 refl) second

pub size-escaped_text : (text : List ℕ) → size (escaped_text text) ≤ 6 * length text
size-escaped_text [] = omega arith
size-escaped_text (code ∷ text) =
    let long : size (escaped code ++ escaped_text text) ≤ 6 * suc (length text) =
    omega (arith, size-escaped code, size-escaped_text text, size-append (escaped code) (escaped_text text)) in
    long

-- ---- tokens

abbrev pub tokens_size : List Token → ℕ
tokens_size tokens = size (printed tokens)

pub tokens_size-append : (xs ys : List Token) → tokens_size (xs ++ ys) ≡ tokens_size xs + tokens_size ys
tokens_size-append xs ys =
    ap (λ (text : List ℕ). size text) (printed-append xs ys) ∙ size-append (printed xs) (printed ys)

printed-characters : (text : List ℕ) → printed (characters text) ≡ escaped_text text
printed-characters [] = refl
printed-characters (code ∷ text) = ap (λ (more : List ℕ). escaped code ++ more) (printed-characters text)

pub characters_size : (text : List ℕ) → tokens_size (characters text) ≤ 6 * length text
characters_size text =
    omega (arith, size-escaped_text text, ap (λ (t : List ℕ). size t) (printed-characters text))

pub half_size : (half : Option ℕ) → tokens_size (characters (half_text half)) ≤ 6 * waiting half
half_size None = omega arith
half_size (Some unit) = omega (arith, characters_size (half_text (Some unit)))

-- a unit where a half waits or none
pub unit_size : (half : Option ℕ) (unit : ℕ) → tokens_size (characters (unit_text half unit)) + 6 * waiting (unit_half half
    unit) ≤ 6 * waiting half + 6
unit_size half unit = omega (arith, characters_size (unit_text half unit), unit_length half unit)

-- units one behind the other
pub units_size : (half : Option ℕ) (units : List ℕ) → tokens_size (characters (units_text half units)) ≤ 6 * waiting half + 6
    * length units
units_size half units = omega (arith, characters_size (units_text half units), units_length half units)

-- ---- attributes

abbrev attributes_size : List (List ℕ) → ℕ
attributes_size attributes = size (attributes_text attributes)

attributes_size-append : (xs ys : List (List ℕ)) → attributes_size (xs ++ ys) ≡ attributes_size xs + attributes_size ys
attributes_size-append xs ys =
    ap (λ (text : List ℕ). size text) (flat_map-append (λ (attribute : List ℕ). 32 ∷ attribute) xs ys)
    ∙ size-append (attributes_text xs) (attributes_text ys)

attribute_size : (name value : List ℕ) → size (attribute name value) ≡ size name + (3 + size value)
unfolding encode_utf8
attribute_size name value =
    let front : List ℕ = 61 ∷ 34 ∷ [] in
    let back : List ℕ = 34 ∷ [] in
    let two : size front ≡ 2 = refl in
    let one : size back ≡ 1 = refl in
    omega (
      arith,
      two,
      one,
      size-append name (front ++ (value ++ back)),
      size-append front (value ++ back),
      size-append value back,
    )

one_attribute : (text : List ℕ) → attributes_size (text ∷ []) ≡ size text + 1
unfolding encode_utf8
one_attribute text =
    let front : List ℕ = 32 ∷ [] in
    let one : size front ≡ 1 = refl in
    let none : size [] ≡ 0 = refl in
    let all : attributes_size (text ∷ []) ≡ size ((front ++ text) ++ []) = refl in
    omega (arith, one, none, all, size-append (front ++ text) [], size-append front text)

more_attributes : (text : List ℕ) (more : List (List ℕ)) → attributes_size (text ∷ more) ≡ (size text + 1) +
    attributes_size more
more_attributes text more =
    let parts : attributes_size ((text ∷ []) ++ more) ≡ attributes_size (text ∷ []) + attributes_size more =
    attributes_size-append (text ∷ []) more in
    omega (arith, parts, one_attribute text)

-- one that may be there
optional_size : (bound : ℕ) (there : Bool) (text : List ℕ) → size text + 1 ≤ bound → attributes_size (optional there text)
    ≤ bound
optional_size bound true text few = omega (arith, few, one_attribute text)
optional_size bound false text few =
    let none : attributes_size [] ≡ 0 = refl in
    omega (arith, none)

-- ---- tags

abbrev pub open_size : Document → Element → ℕ
open_size document element = tokens_size (open_tokens document element)

abbrev pub close_size : Element → ℕ
close_size element = tokens_size (close_tokens element)

tag_size : (inner : List ℕ) → tokens_size (Tag inner ∷ []) ≡ size inner + 2
unfolding encode_utf8
tag_size inner =
    let front : List ℕ = 60 ∷ [] in
    let back : List ℕ = 62 ∷ [] in
    let one : size front ≡ 1 = refl in
    let other : size back ≡ 1 = refl in
    let none : size [] ≡ 0 = refl in
    let all : tokens_size (Tag inner ∷ []) ≡ size ((front ++ (inner ++ back)) ++ []) = refl in
    omega (
      arith,
      one,
      other,
      none,
      all,
      size-append (front ++ (inner ++ back)) [],
      size-append front (inner ++ back),
      size-append inner back,
    )

start_size : (name : List ℕ) (attributes : List (List ℕ)) → tokens_size (start_tag name attributes ∷ []) ≡ size name +
    (attributes_size attributes + 2)
start_size name attributes =
    omega (arith, tag_size (start_text name attributes), size-append name (attributes_text attributes))

line_size : (line : Bool) → tokens_size (if line then Character 10 ∷ [] else []) ≤ 1
unfolding encode_utf8
line_size true =
    let one : tokens_size (Character 10 ∷ []) ≡ 1 = refl in
    omega (arith, one)
line_size false =
    let none : tokens_size [] ≡ 0 = refl in
    omega (arith, none)

end_size : (name : List ℕ) (line : Bool) → tokens_size (end name ∷ (if line then Character 10 ∷ [] else [])) ≤ size
    name + 4
unfolding encode_utf8
end_size name line =
    let front : List ℕ = 47 ∷ [] in
    let one : size front ≡ 1 = refl in
    let back : List Token = if line then Character 10 ∷ [] else [] in
    let parts : tokens_size ((end name ∷ []) ++ back) ≡ tokens_size (end name ∷ []) + tokens_size back =
    tokens_size-append (end name ∷ []) back in
    omega (arith, parts, one, line_size line, tag_size (47 ∷ name), size-append front name)

where_size : (bound : ℕ) (there : Bool) (tokens : List Token) → tokens_size tokens ≤ bound → tokens_size (if there then
    tokens else []) ≤ bound
where_size bound true tokens few = few
where_size bound false tokens few =
    let none : tokens_size [] ≡ 0 = refl in
    omega (arith, none)

open_few : (document : Document) (e : Element) → open_size document e ≤ size (element_name e) + (attributes_size
    (attributes_of document e) + 2)
open_few document e =
    where_size (size (element_name e) + (attributes_size (attributes_of document e) + 2)) (has_tags e)
    (start_tokens document e) (omega (arith, start_size (element_name e) (attributes_of document e)))

close_few : (e : Element) → close_size e ≤ size (element_name e) + 4
close_few e = where_size (size (element_name e) + 4) (has_tags e) (end_tokens e) (end_size (element_name e) (ends_line
    e))

-- ---- the tags of elements

-- one attribute of the page's own
own_attribute : (text : List ℕ) (bound : ℕ) → nat_le (size text + 1) bound ≡ true → attributes_size (text ∷ []) ≤ bound
own_attribute text bound is = omega (arith, one_attribute text, leb-true (size text + 1) bound is)

optional_attribute : (there : Bool) (text : List ℕ) (bound : ℕ) → nat_le (size text + 1) bound ≡ true →
    attributes_size (optional there text) ≤ bound
optional_attribute there text bound is = optional_size bound there text (leb-true (size text + 1) bound is)

-- one with a number behind a front
numbered_size : (name front : List ℕ) (number bound : ℕ) → number < 1000000 → nat_le (size name + size front + 10)
    bound ≡ true → size (attribute name (front ++ decimal number)) + 1 ≤ bound
numbered_size name front number bound low is =
    omega (
      arith,
      attribute_size name (front ++ decimal number),
      size-append front (decimal number),
      six_digits number low,
      leb-true (size name + size front + 10) bound is,
    )

level_attributes : (paragraph : ParagraphForm) → paragraph.level < 10 → attributes_size (paragraph_attributes paragraph)
    ≤ 51
unfolding encode_utf8
level_attributes paragraph low =
    let level = attribute (codes "aria-level") (decimal paragraph.level) in
    let right = optional paragraph.right_to_left (attribute (codes "dir") (codes "rtl")) in
    let breaks = optional paragraph.breaks_page (attribute (codes "style") (codes "break-before:page")) in
    let name : size (codes "aria-level") ≡ 10 = refl in
    let digit = size-decimal 1 paragraph.level (omega arith) (omega (arith, low)) (omega (arith, low)) in
    let first = optional_size 15 (nat_le 7 paragraph.level) level
    (omega (arith, name, digit, attribute_size (codes "aria-level") (decimal paragraph.level))) in
    omega (
      arith,
      first,
      optional_attribute paragraph.right_to_left (attribute (codes "dir") (codes "rtl")) 10 refl,
      optional_attribute paragraph.breaks_page (attribute (codes "style") (codes "break-before:page")) 26 refl,
      attributes_size-append (optional (nat_le 7 paragraph.level) level) (right ++ breaks),
      attributes_size-append right breaks,
    )

reach_size : (span : Option Span) → IsSmallSpanIn span → attributes_size (span_attributes span) ≤ 30
unfolding encode_utf8
reach_size None small =
    let none : attributes_size [] ≡ 0 = refl in
    omega (arith, none)
reach_size (Some span) small =
    let columns = attribute (codes "colspan") (decimal span.columns) in
    let rows = attribute (codes "rowspan") (decimal span.rows) in
    let one : size (codes "colspan") ≡ 7 = refl in
    let other : size (codes "rowspan") ≡ 7 = refl in
    let three = size-decimal 3 span.columns (omega arith) (omega (arith, small.columns)) (omega (arith, small.columns)) in
    let five = size-decimal 5 span.rows (omega arith) (omega (arith, small.rows)) (omega (arith, small.rows)) in
    let first = optional_size 14 (nat_le 2 span.columns) columns
    (omega (arith, one, three, attribute_size (codes "colspan") (decimal span.columns))) in
    let second = optional_size 16 (nat_le 2 span.rows) rows
    (omega (arith, other, five, attribute_size (codes "rowspan") (decimal span.rows))) in
    omega (
      arith,
      first,
      second,
      attributes_size-append (optional (nat_le 2 span.columns) columns) (optional (nat_le 2 span.rows) rows),
    )

head_cell_size : (span : Option Span) → IsSmallSpanIn span → attributes_size (attribute (codes "scope") (codes "col") ∷
    span_attributes span) ≤ 42
unfolding encode_utf8
head_cell_size span small =
    let scope = attribute (codes "scope") (codes "col") in
    omega (arith, reach_size span small, closed_size scope 11 refl, more_attributes scope (span_attributes span))

-- the bytes of the name of a bookmark
abbrev pub anchor_size : Option (List ℕ) → ℕ
anchor_size None = 0
anchor_size (Some name) = size (escaped_text (anchor_name name))

link_size : (url : Option (List ℕ)) → attributes_size (link_attributes url) ≤ 8 + url_bytes url
unfolding encode_utf8
link_size None =
    let none : attributes_size [] ≡ 0 = refl in
    omega (arith, none)
link_size (Some url) =
    let name : size (codes "href") ≡ 4 = refl in
    omega (
      arith,
      name,
      one_attribute (attribute (codes "href") (escaped_text url)),
      attribute_size (codes "href") (escaped_text url),
    )

bookmark_size : (name : Option (List ℕ)) → attributes_size (anchor_attributes name) ≤ 6 + anchor_size name
unfolding encode_utf8
bookmark_size None =
    let none : attributes_size [] ≡ 0 = refl in
    omega (arith, none)
bookmark_size (Some name) =
    let id : size (codes "id") ≡ 2 = refl in
    omega (
      arith,
      id,
      one_attribute (attribute (codes "id") (escaped_text (anchor_name name))),
      attribute_size (codes "id") (escaped_text (anchor_name name)),
    )

-- both tags of an element, by its name and its attributes
tags_within : (document : Document) (e : Element) (name attributes : ℕ) → size (element_name e) ≤ name → attributes_size
    (attributes_of document e) ≤ attributes → open_size document e + close_size e ≤ 2 * name + (attributes + 6)
tags_within document e name attributes short few =
    omega (arith, short, few, open_few document e, close_few e)

-- an element without attributes
bare_tags : (document : Document) (e : Element) → nat_le (size (element_name e)) 7 ≡ true → attributes_of document e ≡
    [] →
    open_size document e + close_size e ≤ 63
bare_tags document e name bare =
    let none : attributes_size (attributes_of document e) ≡ 0 = ap (λ (a : List (List ℕ)). attributes_size a) bare in
    omega (arith, none, tags_within document e 7 0 (closed_size (element_name e) 7 name) (omega (arith, none)))

paragraph_name_size : (level : ℕ) → size (paragraph_name level) ≤ 2
unfolding encode_utf8
paragraph_name_size level =
    by_level level (λ (name : List ℕ). size name ≤ 2) (closed_size (codes "p") 2 refl) (closed_size (codes "h1") 2 refl)
    (closed_size (codes "h2") 2 refl) (closed_size (codes "h3") 2 refl) (closed_size (codes "h4") 2 refl)
    (closed_size (codes "h5") 2 refl) (closed_size (codes "h6") 2 refl)

list_size : (document : Document) (e : Element) (is_ordered : Bool) → element_name e ≡ (if is_ordered then codes "ol" else
    codes "ul") → attributes_of document e ≡ optional is_ordered (attribute (codes "style") (codes "list-style:none")) →
    open_size document e + close_size e ≤ 63
unfolding encode_utf8
list_size document e is_ordered name attributes =
    let own = attribute (codes "style") (codes "list-style:none") in
    let short : size (element_name e) ≤ 2 =
    subst (λ (text : List ℕ). size text ≤ 2) (sym name) (either_size 2 is_ordered (codes "ol") (codes "ul")
    (closed_size (codes "ol") 2 refl) (closed_size (codes "ul") 2 refl)) in
    let few : attributes_size (attributes_of document e) ≤ 24 =
    subst (λ (all : List (List ℕ)). attributes_size all ≤ 24) (sym attributes) (optional_attribute is_ordered own 24
    refl) in
    omega (arith, tags_within document e 2 24 short few)

-- the tags of an element with small numbers, but for the address of a link
pub small_tags : (document : Document) (e : Element) → IsSmall e → open_size document e + close_size e ≤ 63 +
    address_bytes document e
unfolding encode_utf8
small_tags document Notes small =
    omega (
      arith,
      tags_within document Notes 7 19 (closed_size (codes "section") 7 refl)
          (own_attribute (attribute (codes "aria-label") (codes "notes")) 19 refl),
    )
small_tags document (Note number) small =
    let id = attribute (codes "id") (codes "fn-" ++ decimal number) in
    let role = attribute (codes "role") (codes "doc-footnote") in
    omega (
      arith,
      tags_within document (Note number) 5 35 (closed_size (codes "aside") 5 refl)
          (omega (
            arith,
            more_attributes id (role ∷ []),
            numbered_size (codes "id") (codes "fn-") number 15 small refl,
            own_attribute role 20 refl,
          )),
    )
small_tags document (Table first) small = omega (arith, bare_tags document (Table first) refl refl)
small_tags document TableHead small = omega (arith, bare_tags document TableHead refl refl)
small_tags document TableBody small = omega (arith, bare_tags document TableBody refl refl)
small_tags document (Row first) small = omega (arith, bare_tags document (Row first) refl refl)
small_tags document (Cell cell) small =
    omega (arith, tags_within document (Cell cell) 2 30 (closed_size (codes "td") 2 refl) (reach_size cell.span small))
small_tags document (HeadCell cell) small =
    omega (
      arith,
      tags_within document (HeadCell cell) 2 42 (closed_size (codes "th") 2 refl) (head_cell_size cell.span
          small),
    )
small_tags document (AList list) small = omega (arith, list_size document (AList list) list.is_ordered refl refl)
small_tags document (Item number) small = omega (arith, bare_tags document (Item number) refl refl)
small_tags document (Paragraph paragraph) small =
    omega (
      arith,
      tags_within document (Paragraph paragraph) 2 51 (paragraph_name_size paragraph.level)
          (level_attributes paragraph small),
    )
small_tags document Label small =
    omega (
      arith,
      tags_within document Label 4 10 (closed_size (codes "span") 4 refl)
          (own_attribute (attribute (codes "class") (codes "n")) 10 refl),
    )
small_tags document (Reference number) small =
    let id = attribute (codes "id") (codes "fnref-" ++ decimal number) in
    let href = attribute (codes "href") (codes "#fn-" ++ decimal number) in
    let role = attribute (codes "role") (codes "doc-noteref") in
    omega (
      arith,
      tags_within document (Reference number) 1 55 (closed_size (codes "a") 1 refl)
          (omega (
            arith,
            more_attributes id (href ∷ role ∷ []),
            more_attributes href (role ∷ []),
            numbered_size (codes "id") (codes "fnref-") number 18 small refl,
            numbered_size (codes "href") (codes "#fn-") number 18 small refl,
            own_attribute role 19 refl,
          )),
    )
small_tags document (BackLink number) small =
    let href = attribute (codes "href") (codes "#fnref-" ++ decimal number) in
    let role = attribute (codes "role") (codes "doc-backlink") in
    omega (
      arith,
      tags_within document (BackLink number) 1 41 (closed_size (codes "a") 1 refl)
          (omega (
            arith,
            more_attributes href (role ∷ []),
            numbered_size (codes "href") (codes "#fnref-") number 21 small refl,
            own_attribute role 20 refl,
          )),
    )
small_tags document Bold small = omega (arith, bare_tags document Bold refl refl)
small_tags document Italic small = omega (arith, bare_tags document Italic refl refl)
small_tags document Underline small = omega (arith, bare_tags document Underline refl refl)
small_tags document Strike small = omega (arith, bare_tags document Strike refl refl)
small_tags document SmallCaps small =
    omega (
      arith,
      tags_within document SmallCaps 4 32 (closed_size (codes "span") 4 refl)
          (own_attribute (attribute (codes "style") (codes "font-variant:small-caps")) 32 refl),
    )
small_tags document Caps small =
    omega (
      arith,
      tags_within document Caps 4 33 (closed_size (codes "span") 4 refl)
          (own_attribute (attribute (codes "style") (codes "text-transform:uppercase")) 33 refl),
    )
small_tags document Raised small = omega (arith, bare_tags document Raised refl refl)
small_tags document Lowered small = omega (arith, bare_tags document Lowered refl refl)
small_tags document (Link link) small =
    let url = url_in (instruction_of document link) in
    omega (arith, tags_within document (Link link) 1 (8 + url_bytes url) (closed_size (codes "a") 1 refl) (link_size url))
small_tags document (Anchor number) small = absurd small
small_tags document (NestedTable first) small = omega (arith, bare_tags document (NestedTable first) refl refl)
small_tags document (NestedRow first) small = omega (arith, bare_tags document (NestedRow first) refl refl)
small_tags document (NestedCell number) small = omega (arith, bare_tags document (NestedCell number) refl refl)

-- where a bookmark begins
pub anchor_tags : (document : Document) (number : ℕ) → open_size document (Anchor number) + close_size (Anchor number) ≤
    20 + anchor_size (bookmark_name document number)
unfolding encode_utf8
anchor_tags document number =
    let name = bookmark_name document number in
    omega (
      arith,
      tags_within document (Anchor number) 4 (6 + anchor_size name) (closed_size (codes "span") 4 refl)
          (bookmark_size name),
    )

-- ---- glyphs

-- the most bytes of a glyph
abbrev pub show_size : ImageFiles → Glyph → ℕ
show_size images (Unit unit) = 6
show_size images Tab = tokens_size (other_tokens images Tab)
show_size images LineBreak = tokens_size (other_tokens images LineBreak)
show_size images PageBreak = tokens_size (other_tokens images PageBreak)
show_size images (NoteMark number) = tokens_size (other_tokens images (NoteMark number))
show_size images (Picture place) = tokens_size (other_tokens images (Picture place))
show_size images Object = tokens_size (other_tokens images Object)

closed_tokens : (tokens : List Token) (bound : ℕ) → nat_le (tokens_size tokens) bound ≡ true → tokens_size tokens ≤ bound
closed_tokens tokens bound is = leb-true (tokens_size tokens) bound is

pub tab_size : (images : ImageFiles) → show_size images Tab ≤ 6
unfolding encode_utf8
tab_size images = closed_tokens (other_tokens images Tab) 6 refl

pub line_break_size : (images : ImageFiles) → show_size images LineBreak ≤ 6
unfolding encode_utf8
line_break_size images = closed_tokens (other_tokens images LineBreak) 6 refl

pub page_break_size : (images : ImageFiles) → show_size images PageBreak ≤ 54
unfolding encode_utf8
page_break_size images = closed_tokens (other_tokens images PageBreak) 54 refl

pub object_size : (images : ImageFiles) → show_size images Object ≤ 54
unfolding encode_utf8
object_size images = closed_tokens (other_tokens images Object) 54 refl

pub note_mark_size : (images : ImageFiles) (number : ℕ) → number < 1000000 → show_size images (NoteMark number) ≤ 54
note_mark_size images number low =
    omega (
      arith,
      characters_size (decimal number),
      length-decimal-le 6 number (omega arith) (omega (arith, low)) (omega (arith, low)),
    )

-- an image has an address of at most so many bytes
image_size : (folder : List ℕ) (name : Option PictureName) (most : ℕ) → ((one : PictureName) → name ≡ Some one → size
    (escaped_text (image_url folder one)) ≤ most) → tokens_size (picture_tokens folder name) ≤ 54 + most
unfolding encode_utf8
image_size folder None most short = omega (arith, closed_tokens (picture_tokens folder None) 54 refl)
image_size folder (Some name) most short =
    let url = escaped_text (image_url folder name) in
    let src = attribute (codes "src") url in
    let alt = attribute (codes "alt") [] in
    let front : size (codes "src") ≡ 3 = refl in
    let image : size (codes "img") ≡ 3 = refl in
    omega (
      arith,
      front,
      image,
      short name refl,
      start_size (codes "img") (src ∷ alt ∷ []),
      more_attributes src (alt ∷ []),
      attribute_size (codes "src") url,
      own_attribute alt 7 refl,
    )

pub picture_size : (images : ImageFiles) (place : Option ℕ) (most : ℕ) → ((name : PictureName) → picture_name_at
    images.pictures
    place ≡ Some name → size (escaped_text (image_url images.folder name)) ≤ most) → show_size images (Picture place) ≤
    54 + most
picture_size images place most short = image_size images.folder (picture_name_at images.pictures place) most short

behind_half : (images : ImageFiles) (half : Option ℕ) (glyph : Glyph) → tokens_size (characters (half_text half) ++
    other_tokens images glyph) + 6 * waiting None ≤ 6 * waiting half + tokens_size (other_tokens images glyph)
behind_half images half glyph =
    let none : waiting None ≡ 0 = refl in
    omega (
      arith,
      none,
      half_size half,
      tokens_size-append (characters (half_text half)) (other_tokens images glyph),
    )

glyph_size : (images : ImageFiles) (half : Option ℕ) (glyph : Glyph) → tokens_size (glyph_tokens images half glyph) +
    6 * waiting (glyph_half half glyph) ≤ 6 * waiting half + show_size images glyph
glyph_size images half (Unit unit) = unit_size half unit
glyph_size images half Tab = behind_half images half Tab
glyph_size images half LineBreak = behind_half images half LineBreak
glyph_size images half PageBreak = behind_half images half PageBreak
glyph_size images half (NoteMark number) = behind_half images half (NoteMark number)
glyph_size images half (Picture place) = behind_half images half (Picture place)
glyph_size images half Object = behind_half images half Object

-- ---- events

abbrev pub cost_of : PageSource → Event Element Glyph → ℕ
cost_of source event = event_cost (open_size source.document) close_size (show_size source.images) event

event_size : (source : PageSource) (half : Option ℕ) (event : Event Element Glyph) → tokens_size (event_tokens source
    half event) + 6 * waiting (event_half half event) ≤ 6 * waiting half + cost_of source event
event_size source half (Turn (Open path e)) =
    let none : waiting None ≡ 0 = refl in
    omega (
      arith,
      none,
      half_size half,
      tokens_size-append (characters (half_text half)) (open_tokens source.document e),
    )
event_size source half (Turn (Close path e)) =
    let none : waiting None ≡ 0 = refl in
    omega (arith, none, half_size half, tokens_size-append (characters (half_text half)) (close_tokens e))
event_size source half (Leaf path glyph) = glyph_size source.images half glyph

events_size : (source : PageSource) (half : Option ℕ) (events : Events) → tokens_size (tokens_of source half events) +
    6 * waiting (half_of half events) ≤ 6 * waiting half + total (cost_of source) events
unfolding tokens_of half_of
events_size source half [] =
    let none : tokens_size [] ≡ 0 = refl in
    omega (arith, none)
events_size source half (event ∷ events) =
    let one = event_tokens source half event in
    let rest = tokens_of source (event_half half event) events in
    let long : tokens_size (one ++ rest) + 6 * waiting (half_of (event_half half event) events) ≤ 6 * waiting half + (cost_of
    source event + total (cost_of source) events) =
    omega (
      arith,
      event_size source half event,
      events_size source (event_half half event) events,
      tokens_size-append one rest,
    ) in
    long

-- ---- a page

-- both tags of an element
abbrev pub tags_size : Document → Element → ℕ
tags_size document e = open_size document e + close_size e

body_size : (source : PageSource) (places : Places) → tokens_size (body_tokens source places) ≤ total (tags_size
    source.document) (opened_from same [] places) + shown_cost (show_size source.images) places
body_size source places =
    let events = events_from same [] places in
    let tokens = tokens_of source None events in
    let half = half_of None events in
    let long : tokens_size (tokens ++ characters (half_text half)) ≤ total (tags_size source.document) (opened_from same []
    places) + shown_cost (show_size source.images) places =
    omega (
      arith,
      events_size source None events,
      half_size half,
      tokens_size-append tokens (characters (half_text half)),
      events_cost same same_exact (open_size source.document) close_size (show_size source.images) [] places,
    ) in
    long

code_size : (number : ℕ) → size (language_code number) ≤ 8
code_size number =
    let rest = drop (2 * number) language_codes in
    omega (
      arith,
      size_four (language_code number),
      length-take (2 * number + 2 - 2 * number) rest,
    )

language_size : (language : Option ℕ) → attributes_size (language_attributes language) ≤ 16
unfolding encode_utf8
language_size None =
    let none : attributes_size [] ≡ 0 = refl in
    omega (arith, none)
language_size (Some identifier) =
    let primary = identifier % 1024 in
    let lang = attribute (codes "lang") (language_code (primary - 1)) in
    let name : size (codes "lang") ≡ 4 = refl in
    optional_size 16 (nat_le 1 primary && nat_le primary 45) lang
    (omega (arith, name, code_size (primary - 1), attribute_size (codes "lang") (language_code (primary - 1))))

front_size : (language : Option ℕ) → tokens_size (front_tokens language) ≤ 150
unfolding encode_utf8
front_size language =
    let first = start_tag (codes "!DOCTYPE") (codes "html" ∷ []) ∷ Character 10 ∷ [] in
    let second = start_tag (codes "html") (language_attributes language) ∷ [] in
    let third : List Token = Character 10 ∷ meta_tokens in
    let name : size (codes "html") ≡ 4 = refl in
    omega (
      arith,
      name,
      closed_tokens first 16 refl,
      closed_tokens third 106 refl,
      language_size language,
      start_size (codes "html") (language_attributes language),
      tokens_size-append first (second ++ third),
      tokens_size-append second third,
    )

-- what is said of a page, what its places open, and what they show
pub page_size : (source : PageSource) (head : Head) (places : Places) → size (page_text source head places) ≤ 352 +
    (tokens_size (characters head.title) + (total (tags_size source.document) (opened_from same [] places) + shown_cost
    (show_size source.images) places))
unfolding encode_utf8
page_size source head places =
    let front = front_tokens head.language in
    let title = characters head.title in
    let body = body_tokens source places in
    omega (
      arith,
      front_size head.language,
      closed_tokens style_tokens 186 refl,
      closed_tokens back_tokens 16 refl,
      body_size source places,
      tokens_size-append front (title ++ (style_tokens ++ (body ++ back_tokens))),
      tokens_size-append title (style_tokens ++ (body ++ back_tokens)),
      tokens_size-append style_tokens (body ++ back_tokens),
      tokens_size-append body back_tokens,
    )
