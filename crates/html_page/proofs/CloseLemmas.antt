-- No tag of a page has a > of its own, so that the page is read back.
use Rattle.std.proofs.Common.{◌≡◌, ℕ, zero, suc, ◌+◌, ◌/◌, ◌%◌, ◌==◌, Bool, true, false, not, ◌&&◌, List, [], ◌∷◌, ◌++◌}
use Rattle.std.proofs.Common.{map, Option, Some, None, refl, sym, ap, ◌∙◌, arith}
use Rattle.std.specs.Prelude.{if◌then◌else◌, nat_lt, nat_le, codes}
use Rattle.std.specs.Fmt.{decimal, digits, digits_onto, digit_glyph}
use Rattle.std.specs.List.{list_all}
use Rattle.std.proofs.lemmas.Bool.Decides.{nat_tests}
use Rattle.std.proofs.lemmas.List.Folds.{list_all-append}
use Rattle.html_text.specs.Tokens.{Token, Character, Tag, is_closed_token}
use Rattle.html_text.specs.Reading.{read}
use Rattle.html_text.proofs.Public.{read_back, no_markup}
use Rattle.view_paths.specs.Events.{Event, Turn, Leaf, Open, Close, events_from}
use Rattle.view_places.specs.declared.element.Element.{Element}
use Rattle.view_places.specs.declared.element.Paragraph.{Paragraph as ParagraphForm}
use Rattle.view_places.specs.declared.element.Element.TheVariants.{Notes, Note, Table, TableHead, TableBody, Row, Cell}
use Rattle.view_places.specs.declared.element.Element.TheVariants.{HeadCell, List as AList, Item, Paragraph, Label}
use Rattle.view_places.specs.declared.element.Element.TheVariants.{Reference, BackLink, Bold, Italic, Underline, Strike}
use Rattle.view_places.specs.declared.element.Element.TheVariants.{SmallCaps, Caps, Raised, Lowered, Link, Anchor}
use Rattle.view_places.specs.declared.element.Element.TheVariants.{NestedTable, NestedRow, NestedCell}
use Rattle.view_places.specs.declared.glyph.Glyph.{Glyph}
use Rattle.view_places.specs.declared.glyph.Glyph.TheVariants.{Unit, Tab, LineBreak, PageBreak, NoteMark, Picture}
use Rattle.view_places.specs.declared.glyph.Glyph.TheVariants.{Object}
use Rattle.view_places.specs.Same.{same}
use Rattle.html_page.specs.Tags.{attribute, attributes_of, attributes_text, ends_line, has_tags, element_name, optional}
use Rattle.html_page.specs.Tags.{reach_attributes, span_attributes}
use Rattle.view_places.specs.declared.element.Span.{Span}
use Rattle.html_page.specs.Tags.{paragraph_attributes, paragraph_name, start_text}
use Rattle.glyph_units.specs.Units.{unit_text}
use Rattle.html_page.specs.Pages.{Events, Head, Places, characters, close_tokens, open_tokens, other_tokens, glyph_tokens}
use Rattle.html_page.specs.Pages.{end_tokens, start_tokens}
use Rattle.html_page.specs.Pages.{event_tokens, event_half, tokens_of, half_of, body_tokens, front_tokens, style_tokens}
use Rattle.html_page.specs.Pages.{back_tokens, page_tokens, page_text, picture_tokens}
use Rattle.html_page.specs.Laws.{PagesAreReadBack}
use Rattle.std.specs.Prelude.{◌||◌, ◌*◌, ◌+◌, ◌-◌, ◌&&◌, slice_range}
use Rattle.html_page.proofs.PutLemmas.{all-slice}
use Rattle.html_text.specs.Tokens.{escaped_text}
use Rattle.html_text.specs.Safe.{is_safe}
use Rattle.doc_model.specs.declared.document.Document.{Document}
use Rattle.doc_pictures.specs.declared.names.PictureName.{PictureName}
use Rattle.doc_pictures.specs.Files.{ImageFiles, picture_name_at}
use Rattle.html_page.specs.Images.{image_attributes, image_url}
use Rattle.html_page.specs.Sources.{PageSource}
use Rattle.field_links.specs.Urls.{anchor_name}
use Rattle.link_targets.specs.Links.{bookmark_name, instruction_of, url_in}
use Rattle.html_page.specs.Languages.{language_attributes, language_code, language_codes}
use Rattle.html_page.specs.Tags.{anchor_attributes, link_attributes, plain_attributes}
use Rattle.doc_bits.proofs.Public.{and_true, and_first, and_second}
use Rattle.text_codes.specs.Halves.{half_text}

-- ---- texts without >

abbrev HasNoEnd : List ℕ → Type 0
HasNoEnd text = list_all (λ code. not (code == 62)) text ≡ true

no_end-append : (xs ys : List ℕ) → HasNoEnd xs → HasNoEnd ys → HasNoEnd (xs ++ ys)
no_end-append xs ys one other =
    list_all-append (λ (code : ℕ). not (code == 62)) xs ys ∙ and_true (list_all (λ code. not (code == 62)) xs) (list_all
    (λ code. not (code == 62)) ys) one other

digit_is_no_end : (d : ℕ) → not (digit_glyph false d == 62) ≡ true
digit_is_no_end d = grind (arith, nat_tests)

no_end-digits_onto : (k n : ℕ) (acc : List ℕ) → HasNoEnd acc → HasNoEnd (digits_onto k 10 false n acc)
no_end-digits_onto zero n acc h = h
no_end-digits_onto (suc k) n acc h =
    let next : HasNoEnd (digit_glyph false (n % 10) ∷ acc) =
    and_true (not (digit_glyph false (n % 10) == 62)) (list_all (λ code. not (code == 62)) acc) (digit_is_no_end (n %
    10))
    h in
    elim (n / 10 == 0) as (λ b. HasNoEnd (if b then digit_glyph false (n % 10) ∷ acc else digits_onto k 10 false (n /
    10)
    (digit_glyph false (n % 10) ∷ acc))) [
      | true ↦ next
      | false ↦ no_end-digits_onto k (n / 10) (digit_glyph false (n % 10) ∷ acc) next
    ]

no_end-decimal : (n : ℕ) → HasNoEnd (decimal n)
unfolding digits
no_end-decimal n = no_end-digits_onto 64 n [] refl

-- an attribute by its value
no_end-attribute : (name value : List ℕ) → HasNoEnd name → HasNoEnd value → HasNoEnd (attribute name value)
no_end-attribute name value one other =
    no_end-append name (61 ∷ 34 ∷ (value ++ 34 ∷ [])) one (no_end-append value (34 ∷ []) other refl)

abbrev HaveNoEnd : List (List ℕ) → Type 0
HaveNoEnd attributes = HasNoEnd (attributes_text attributes)

have_no_end-cons : (attribute : List ℕ) (more : List (List ℕ)) → HasNoEnd attribute → HaveNoEnd more → HaveNoEnd
    (attribute ∷
    more)
have_no_end-cons attribute more one other = no_end-append (32 ∷ attribute) (attributes_text more) one other

have_no_end-optional : (there : Bool) (text : List ℕ) (more : List (List ℕ)) → HasNoEnd text → HaveNoEnd more →
    HaveNoEnd
    (optional there text ++ more)
have_no_end-optional true text more one other = have_no_end-cons text more one other
have_no_end-optional false text more one other = other

no_end-paragraph : (paragraph : ParagraphForm) → HaveNoEnd (paragraph_attributes paragraph)
no_end-paragraph paragraph =
    have_no_end-optional (nat_le 7 paragraph.level) (attribute (codes "aria-level") (decimal paragraph.level)) (optional
    paragraph.right_to_left (attribute (codes "dir") (codes "rtl")) ++ optional paragraph.breaks_page (attribute (codes
    "style") (codes "break-before:page"))) (no_end-attribute (codes "aria-level") (decimal paragraph.level) refl
    (no_end-decimal paragraph.level)) (flags paragraph.right_to_left paragraph.breaks_page)
  where
    flags : (one other : Bool) → HaveNoEnd (optional one (attribute (codes "dir") (codes "rtl")) ++ optional other
        (attribute (codes "style") (codes "break-before:page")))
    flags true true = refl
    flags true false = refl
    flags false true = refl
    flags false false = refl

no_end-list : (is_ordered : Bool) → HaveNoEnd (optional is_ordered (attribute (codes "style") (codes
    "list-style:none")))
no_end-list true = refl
no_end-list false = refl

numbered_attribute : (name front : List ℕ) (number : ℕ) → HasNoEnd name → HasNoEnd front → HasNoEnd (attribute name
    (front ++
    decimal number))
numbered_attribute name front number one other =
    no_end-attribute name (front ++ decimal number) one (no_end-append front (decimal number) other (no_end-decimal
    number))

no_end-reach : (span : Span) → HaveNoEnd (reach_attributes span)
no_end-reach span =
    let rows = attribute (codes "rowspan") (decimal span.rows) in
    have_no_end-optional (nat_le 2 span.columns) (attribute (codes "colspan") (decimal span.columns)) (optional (nat_le
    2 span.rows) rows) (no_end-attribute (codes "colspan") (decimal span.columns) refl (no_end-decimal span.columns))
    (one_optional (nat_le 2 span.rows) rows (no_end-attribute (codes "rowspan") (decimal span.rows) refl
    (no_end-decimal span.rows)))
  where
    one_optional : (there : Bool) (text : List ℕ) → HasNoEnd text → HaveNoEnd (optional there text)
    one_optional true text one = have_no_end-cons text [] one refl
    one_optional false text one = refl

no_end-span : (span : Option Span) → HaveNoEnd (span_attributes span)
no_end-span None = refl
no_end-span (Some span) = no_end-reach span

no_end-plain : (e : Element) → HaveNoEnd (plain_attributes e)
no_end-plain Notes = refl
no_end-plain (Note number) =
    have_no_end-cons (attribute (codes "id") (codes "fn-" ++ decimal number)) (attribute (codes "role") (codes
    "doc-footnote") ∷ []) (numbered_attribute (codes "id") (codes "fn-") number refl refl) refl
no_end-plain (Table first) = refl
no_end-plain TableHead = refl
no_end-plain TableBody = refl
no_end-plain (Row first) = refl
no_end-plain (Cell cell) = no_end-span cell.span
no_end-plain (HeadCell cell) =
    have_no_end-cons (attribute (codes "scope") (codes "col")) (span_attributes cell.span) refl (no_end-span cell.span)
no_end-plain (NestedTable first) = refl
no_end-plain (NestedRow first) = refl
no_end-plain (NestedCell number) = refl
no_end-plain (AList list) = no_end-list list.is_ordered
no_end-plain (Item number) = refl
no_end-plain (Paragraph paragraph) = no_end-paragraph paragraph
no_end-plain Label = refl
no_end-plain (Reference number) =
    have_no_end-cons (attribute (codes "id") (codes "fnref-" ++ decimal number)) (attribute (codes "href") (codes
    "#fn-" ++
    decimal number) ∷ attribute (codes "role") (codes "doc-noteref") ∷ []) (numbered_attribute (codes "id") (codes
    "fnref-") number refl refl) (have_no_end-cons (attribute (codes "href") (codes "#fn-" ++ decimal number)) (attribute
    (codes "role") (codes "doc-noteref") ∷ []) (numbered_attribute (codes "href") (codes "#fn-") number refl refl) refl)
no_end-plain (BackLink number) =
    have_no_end-cons (attribute (codes "href") (codes "#fnref-" ++ decimal number)) (attribute (codes "role") (codes
    "doc-backlink") ∷ []) (numbered_attribute (codes "href") (codes "#fnref-") number refl refl) refl
no_end-plain Bold = refl
no_end-plain Italic = refl
no_end-plain Underline = refl
no_end-plain Strike = refl
no_end-plain SmallCaps = refl
no_end-plain Caps = refl
no_end-plain Raised = refl
no_end-plain Lowered = refl
no_end-plain (Link link) = refl
no_end-plain (Anchor number) = refl

safe_has_no_end : (code : ℕ) → is_safe code ≡ true → not (code == 62) ≡ true
safe_has_no_end code is =
    elim (code == 60) as (λ a. not (a || (code == 62 || code == 34)) ≡ true → not (code == 62) ≡ true) [
      | true ↦ λ e. absurd (cc (e))
      | false ↦ elim (code == 62) as (λ b. not (false || (b || code == 34)) ≡ true → not b ≡ true)
          [ true ↦ λ e. e | false ↦ λ e. refl ]
    ] is

all_safe : (text : List ℕ) → list_all is_safe text ≡ true → HasNoEnd text
all_safe [] is = refl
all_safe (code ∷ text) is =
    and_true (not (code == 62)) (list_all (λ code. not (code == 62)) text) (safe_has_no_end code (and_first (is_safe
    code)
    (list_all is_safe text) is)) (all_safe text (and_second (is_safe code) (list_all is_safe text) is))

no_end-escaped : (text : List ℕ) → HasNoEnd (escaped_text text)
no_end-escaped text = all_safe (escaped_text text) (no_markup text)

no_end-link : (url : Option (List ℕ)) → HaveNoEnd (link_attributes url)
no_end-link None = refl
no_end-link (Some url) =
    have_no_end-cons (attribute (codes "href") (escaped_text url)) [] (no_end-attribute (codes "href") (escaped_text
    url) refl (no_end-escaped url)) refl

no_end-anchor : (name : Option (List ℕ)) → HaveNoEnd (anchor_attributes name)
no_end-anchor None = refl
no_end-anchor (Some name) =
    have_no_end-cons (attribute (codes "id") (escaped_text (anchor_name name))) [] (no_end-attribute (codes "id")
    (escaped_text (anchor_name name)) refl (no_end-escaped (anchor_name name))) refl

no_end-attributes : (document : Document) (e : Element) → HaveNoEnd (attributes_of document e)
no_end-attributes document Notes = no_end-plain Notes
no_end-attributes document (Note number) = no_end-plain (Note number)
no_end-attributes document (Table first) = no_end-plain (Table first)
no_end-attributes document TableHead = no_end-plain TableHead
no_end-attributes document TableBody = no_end-plain TableBody
no_end-attributes document (Row first) = no_end-plain (Row first)
no_end-attributes document (Cell cell) = no_end-plain (Cell cell)
no_end-attributes document (HeadCell cell) = no_end-plain (HeadCell cell)
no_end-attributes document (NestedTable first) = no_end-plain (NestedTable first)
no_end-attributes document (NestedRow first) = no_end-plain (NestedRow first)
no_end-attributes document (NestedCell number) = no_end-plain (NestedCell number)
no_end-attributes document (AList list) = no_end-plain (AList list)
no_end-attributes document (Item number) = no_end-plain (Item number)
no_end-attributes document (Paragraph paragraph) = no_end-plain (Paragraph paragraph)
no_end-attributes document Label = no_end-plain Label
no_end-attributes document (Reference number) = no_end-plain (Reference number)
no_end-attributes document (BackLink number) = no_end-plain (BackLink number)
no_end-attributes document Bold = no_end-plain Bold
no_end-attributes document Italic = no_end-plain Italic
no_end-attributes document Underline = no_end-plain Underline
no_end-attributes document Strike = no_end-plain Strike
no_end-attributes document SmallCaps = no_end-plain SmallCaps
no_end-attributes document Caps = no_end-plain Caps
no_end-attributes document Raised = no_end-plain Raised
no_end-attributes document Lowered = no_end-plain Lowered
no_end-attributes document (Link link) = no_end-link (url_in (instruction_of document link))
no_end-attributes document (Anchor number) = no_end-anchor (bookmark_name document number)

pub by_level : (level : ℕ) (P : List ℕ → Type 0) → P (codes "p") → P (codes "h1") → P (codes "h2") → P (codes "h3") → P
    (codes
    "h4") → P (codes "h5") → P (codes "h6") → P (paragraph_name level)
by_level level P p one two three four five six =
    elim (level == 0) as (λ a. P (if a then codes "p" else if level == 1 then codes "h1" else if level == 2 then codes
    "h2"
    else if level == 3 then codes "h3" else if level == 4 then codes "h4" else if level == 5 then codes "h5" else codes
    "h6")) [
      | true ↦ p
      | false ↦ elim (level == 1) as (λ a. P (if a then codes "h1" else if level == 2 then codes "h2" else if level == 3
          then codes "h3" else if level == 4 then codes "h4" else if level == 5 then codes "h5" else codes "h6")) [
            | true ↦ one
            | false ↦ elim (level == 2) as (λ a. P (if a then codes "h2" else if level == 3 then codes "h3" else if
                level
                == 4 then codes "h4" else if level == 5 then codes "h5" else codes "h6")) [
                  | true ↦ two
                  | false ↦ elim (level == 3) as (λ a. P (if a then codes "h3" else if level == 4 then codes "h4" else
                      if
                      level == 5 then codes "h5" else codes "h6")) [
                        | true ↦ three
                        | false ↦ elim (level == 4) as (λ a. P (if a then codes "h4" else if level == 5 then codes "h5"
                            else codes "h6")) [
                              | true ↦ four
                              | false ↦ elim (level == 5) as (λ a. P (if a then codes "h5" else codes "h6"))
                                  [ true ↦ five | false ↦ six ]
                            ]
                      ]
                ]
          ]
    ]

by_order : (is_ordered : Bool) (P : List ℕ → Type 0) → P (codes "ol") → P (codes "ul") → P (if is_ordered then codes
    "ol"
    else codes "ul")
by_order true P one other = one
by_order false P one other = other

-- what holds of each name of an element
pub by_name : (e : Element) (P : List ℕ → Type 0) → P (codes "section") → P (codes "aside") → P (codes "table") → P
    (codes
    "thead") → P (codes "tbody") → P (codes "tr") → P (codes "td") → P (codes "th") → P (codes "ol") → P (codes "ul")
    → P
    (codes "li") → P (codes "p") → P (codes "h1") → P (codes "h2") → P (codes "h3") → P (codes "h4") → P (codes "h5")
    → P
    (codes "h6") → P (codes "span") → P (codes "a") → P (codes "b") → P (codes "i") → P (codes "u") → P (codes "s") → P
    (codes "sup") → P (codes "sub") → P (element_name e)
by_name Notes P section aside table thead tbody tr td th ol ul li p h1 h2 h3 h4 h5 h6 span a b i u s sup sub = section
by_name (Note number) P section aside table thead tbody tr td th ol ul li p h1 h2 h3 h4 h5 h6 span a b i u s sup sub =
    aside
by_name (Table first) P section aside table thead tbody tr td th ol ul li p h1 h2 h3 h4 h5 h6 span a b i u s sup sub =
    table
by_name TableHead P section aside table thead tbody tr td th ol ul li p h1 h2 h3 h4 h5 h6 span a b i u s sup sub = thead
by_name TableBody P section aside table thead tbody tr td th ol ul li p h1 h2 h3 h4 h5 h6 span a b i u s sup sub = tbody
by_name (Row first) P section aside table thead tbody tr td th ol ul li p h1 h2 h3 h4 h5 h6 span a b i u s sup sub = tr
by_name (Cell cell) P section aside table thead tbody tr td th ol ul li p h1 h2 h3 h4 h5 h6 span a b i u s sup sub =
    td
by_name (HeadCell cell) P section aside table thead tbody tr td th ol ul li p h1 h2 h3 h4 h5 h6 span a b i u s sup
    sub = th
by_name (NestedTable first) P section aside table thead tbody tr td th ol ul li p h1 h2 h3 h4 h5 h6 span a b i u s sup
    sub = table
by_name (NestedRow first) P section aside table thead tbody tr td th ol ul li p h1 h2 h3 h4 h5 h6 span a b i u s sup
    sub = tr
by_name (NestedCell number) P section aside table thead tbody tr td th ol ul li p h1 h2 h3 h4 h5 h6 span a b i u s sup
    sub = td
by_name (AList list) P section aside table thead tbody tr td th ol ul li p h1 h2 h3 h4 h5 h6 span a b i u s sup sub =
    by_order list.is_ordered P ol ul
by_name (Item number) P section aside table thead tbody tr td th ol ul li p h1 h2 h3 h4 h5 h6 span a b i u s sup sub =
    li
by_name (Paragraph paragraph) P section aside table thead tbody tr td th ol ul li p h1 h2 h3 h4 h5 h6 span a b i u s
    sup sub =
    by_level paragraph.level P p h1 h2 h3 h4 h5 h6
by_name Label P section aside table thead tbody tr td th ol ul li p h1 h2 h3 h4 h5 h6 span a b i u s sup sub = span
by_name (Reference number) P section aside table thead tbody tr td th ol ul li p h1 h2 h3 h4 h5 h6 span a b i u s sup
    sub = a
by_name (BackLink number) P section aside table thead tbody tr td th ol ul li p h1 h2 h3 h4 h5 h6 span a b i u s sup
    sub = a
by_name Bold P section aside table thead tbody tr td th ol ul li p h1 h2 h3 h4 h5 h6 span a b i u s sup sub = b
by_name Italic P section aside table thead tbody tr td th ol ul li p h1 h2 h3 h4 h5 h6 span a b i u s sup sub = i
by_name Underline P section aside table thead tbody tr td th ol ul li p h1 h2 h3 h4 h5 h6 span a b i u s sup sub = u
by_name Strike P section aside table thead tbody tr td th ol ul li p h1 h2 h3 h4 h5 h6 span a b i u s sup sub = s
by_name SmallCaps P section aside table thead tbody tr td th ol ul li p h1 h2 h3 h4 h5 h6 span a b i u s sup sub = span
by_name Caps P section aside table thead tbody tr td th ol ul li p h1 h2 h3 h4 h5 h6 span a b i u s sup sub = span
by_name Raised P section aside table thead tbody tr td th ol ul li p h1 h2 h3 h4 h5 h6 span a b i u s sup sub = sup
by_name Lowered P section aside table thead tbody tr td th ol ul li p h1 h2 h3 h4 h5 h6 span a b i u s sup sub = sub
by_name (Link link) P section aside table thead tbody tr td th ol ul li p h1 h2 h3 h4 h5 h6 span a b i u s sup sub = a
by_name (Anchor number) P section aside table thead tbody tr td th ol ul li p h1 h2 h3 h4 h5 h6 span a b i u s sup sub =
    span

no_end-name : (e : Element) → HasNoEnd (element_name e)
no_end-name e =
    by_name e HasNoEnd refl refl refl refl refl refl refl refl refl refl refl refl refl refl refl refl refl refl refl
    refl
    refl refl refl refl refl refl

-- ---- tokens

abbrev AreClosed : List Token → Type 0
AreClosed tokens = list_all is_closed_token tokens ≡ true

closed-append : (xs ys : List Token) → AreClosed xs → AreClosed ys → AreClosed (xs ++ ys)
closed-append xs ys one other =
    list_all-append is_closed_token xs ys ∙ and_true (list_all is_closed_token xs) (list_all is_closed_token ys) one
    other

closed-characters : (text : List ℕ) → AreClosed (characters text)
closed-characters [] = refl
closed-characters (code ∷ text) = closed-characters text

closed-start : (document : Document) (e : Element) → AreClosed (start_tokens document e)
closed-start document e =
    and_true (list_all (λ code. not (code == 62)) (start_text (element_name e) (attributes_of document e))) true
    (no_end-append (element_name
    e)
    (attributes_text (attributes_of document e)) (no_end-name e) (no_end-attributes document e)) refl

closed-where : (there : Bool) (tokens : List Token) → AreClosed tokens → AreClosed (if there then tokens else [])
closed-where true tokens is = is
closed-where false tokens is = refl

closed-open : (document : Document) (e : Element) → AreClosed (open_tokens document e)
closed-open document e = closed-where (has_tags e) (start_tokens document e) (closed-start document e)

closed-line : (line : Bool) → AreClosed (if line then Character 10 ∷ [] else [])
closed-line true = refl
closed-line false = refl

closed-end : (e : Element) → AreClosed (end_tokens e)
closed-end e =
    and_true (list_all (λ code. not (code == 62)) (element_name e)) (list_all is_closed_token (if ends_line e then
    Character 10 ∷
    []
    else
    [])) (no_end-name e) (closed-line (ends_line e))

closed-close : (e : Element) → AreClosed (close_tokens e)
closed-close e = closed-where (has_tags e) (end_tokens e) (closed-end e)

closed-image : (folder : List ℕ) (name : Option PictureName) → AreClosed (picture_tokens folder name)
closed-image folder None = refl
closed-image folder (Some name) =
    let url = image_url folder name in
    and_true (list_all (λ code. not (code == 62)) (start_text (codes "img") (image_attributes folder name))) true
    (no_end-append (codes "img") (attributes_text (image_attributes folder name)) refl (have_no_end-cons (attribute
    (codes "src") (escaped_text url)) (attribute (codes "alt") [] ∷ []) (no_end-attribute (codes "src") (escaped_text
    url) refl (no_end-escaped url)) refl)) refl

closed-other : (images : ImageFiles) (g : Glyph) → AreClosed (other_tokens images g)
closed-other images (Unit unit) = refl
closed-other images Tab = refl
closed-other images LineBreak = refl
closed-other images PageBreak = refl
closed-other images (NoteMark number) = closed-characters (decimal number)
closed-other images (Picture place) = closed-image images.folder (picture_name_at images.pictures place)
closed-other images Object = refl

closed-behind : (half : Option ℕ) (tokens : List Token) → AreClosed tokens → AreClosed (characters (half_text half) ++
    tokens)
closed-behind half tokens h = closed-append (characters (half_text half)) tokens (closed-characters (half_text half)) h

closed-glyph : (images : ImageFiles) (half : Option ℕ) (g : Glyph) → AreClosed (glyph_tokens images half g)
closed-glyph images half (Unit unit) = closed-characters (unit_text half unit)
closed-glyph images half Tab = closed-behind half (other_tokens images Tab) (closed-other images Tab)
closed-glyph images half LineBreak = closed-behind half (other_tokens images LineBreak) (closed-other images LineBreak)
closed-glyph images half PageBreak = closed-behind half (other_tokens images PageBreak) (closed-other images PageBreak)
closed-glyph images half (NoteMark number) =
    closed-behind half (other_tokens images (NoteMark number)) (closed-other images (NoteMark number))
closed-glyph images half (Picture place) =
    closed-behind half (other_tokens images (Picture place)) (closed-other images (Picture place))
closed-glyph images half Object = closed-behind half (other_tokens images Object) (closed-other images Object)

closed-event : (source : PageSource) (half : Option ℕ) (event : Event Element Glyph) → AreClosed (event_tokens source half event)
closed-event source half (Turn (Open path e)) = closed-behind half (open_tokens source.document e) (closed-open source.document e)
closed-event source half (Turn (Close path e)) = closed-behind half (close_tokens e) (closed-close e)
closed-event source half (Leaf path g) = closed-glyph source.images half g

closed-events : (source : PageSource) (half : Option ℕ) (events : Events) → AreClosed (tokens_of source half events)
unfolding tokens_of
closed-events source half [] = refl
closed-events source half (event ∷ events) =
    closed-append (event_tokens source half event) (tokens_of source (event_half half event) events) (closed-event source half event)
    (closed-events source (event_half half event) events)

closed-body : (source : PageSource) (places : Places) → AreClosed (body_tokens source places)
closed-body source places =
    let events = events_from same [] places in
    closed-append (tokens_of source None events) (characters (half_text (half_of None events))) (closed-events source None events)
    (closed-characters (half_text (half_of None events)))

no_end-slice : (text : List ℕ) (from to : ℕ) → HasNoEnd text → HasNoEnd (slice_range text from to)
no_end-slice text from to is =
    all-slice (λ (code : ℕ). not (code == 62)) text from to is

no_end-language : (language : Option ℕ) → HaveNoEnd (language_attributes language)
no_end-language None = refl
no_end-language (Some identifier) =
    let number = identifier % 1024 - 1 in
    elim (nat_le 1 (identifier % 1024) && nat_le (identifier % 1024) 45) as (λ (b : Bool). HaveNoEnd (if b then
    attribute (codes "lang") (language_code number) ∷ [] else [])) [
      | true ↦ have_no_end-cons (attribute (codes "lang") (language_code number)) [] (no_end-attribute (codes "lang")
          (language_code number) refl (no_end-slice language_codes (2 * number) (2 * number + 2) refl)) refl
      | false ↦ refl
    ]

closed-front : (language : Option ℕ) → AreClosed (front_tokens language)
closed-front language =
    and_true (list_all (λ code. not (code == 62)) (start_text (codes "html") (language_attributes language))) true
    (no_end-append (codes "html") (attributes_text (language_attributes language)) refl (no_end-language language)) refl

closed-page : (source : PageSource) (head : Head) (places : Places) → AreClosed (page_tokens source head places)
closed-page source head places =
    closed-append (front_tokens head.language) (characters head.title ++ (style_tokens ++ (body_tokens source places
    ++ back_tokens))) (closed-front head.language)
    (closed-append (characters head.title) (style_tokens ++ (body_tokens source places ++ back_tokens))
    (closed-characters head.title)
    (closed-append style_tokens (body_tokens source places ++ back_tokens) refl (closed-append (body_tokens source
    places) back_tokens
    (closed-body source places) refl)))

pub page_read : PagesAreReadBack
page_read source head places = read_back (page_tokens source head places) (closed-page source head places)
