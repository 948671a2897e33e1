-- Each tag of a page is one of a closed list.
use Rattle.std.proofs.Common.{◌≡◌, ℕ, Bool, true, false, List, [], ◌∷◌, ◌++◌, Option, Some, None, refl, sym, ap, subst}
use Rattle.std.proofs.Common.{inl, inr}
use Rattle.std.specs.Prelude.{if◌then◌else◌, nat_le, codes}
use Rattle.std.specs.Fmt.{decimal}
use Rattle.std.specs.List.{All}
use Rattle.std.proofs.lemmas.List.Elements.{All-nil, All-cons, All-append}
use Rattle.html_text.specs.Tokens.{Token, Character, Tag}
use Rattle.html_text.specs.Reading.{read}
use Rattle.view_paths.specs.Events.{Event, Turn, Leaf, Open, Close, events_from}
use Rattle.view_places.specs.declared.element.Element.{Element}
use Rattle.view_places.specs.declared.element.Paragraph.{Paragraph as ParagraphForm}
use Rattle.view_places.specs.declared.element.Element.TheVariants.{Notes, Note, Table, TableHead, TableBody, Row, Cell}
use Rattle.view_places.specs.declared.element.Element.TheVariants.{HeadCell, List as AList, Item, Paragraph, Label}
use Rattle.view_places.specs.declared.element.Element.TheVariants.{Reference, BackLink, Bold, Italic, Underline, Strike}
use Rattle.view_places.specs.declared.element.Element.TheVariants.{SmallCaps, Caps, Raised, Lowered, Link, Anchor}
use Rattle.view_places.specs.declared.element.Element.TheVariants.{NestedTable, NestedRow, NestedCell}
use Rattle.view_places.specs.declared.glyph.Glyph.{Glyph}
use Rattle.view_places.specs.declared.glyph.Glyph.TheVariants.{Unit, Tab, LineBreak, PageBreak, NoteMark, Picture}
use Rattle.view_places.specs.declared.glyph.Glyph.TheVariants.{Object}
use Rattle.view_places.specs.Same.{same}
use Rattle.html_page.specs.Tags.{attribute, attributes_of, ends_line, has_tags, element_name, optional}
use Rattle.html_page.specs.Tags.{paragraph_attributes}
use Rattle.html_page.specs.Tags.{span_attributes}
use Rattle.view_places.specs.declared.element.Span.{Span}
use Rattle.html_page.specs.Tags.{start_text}
use Rattle.glyph_units.specs.Units.{unit_text}
use Rattle.html_page.specs.Pages.{Events, Head, Places, characters, start_tag, end, close_tokens, open_tokens}
use Rattle.html_page.specs.Pages.{other_tokens}
use Rattle.html_page.specs.Pages.{end_tokens, start_tokens}
use Rattle.html_page.specs.Pages.{glyph_tokens, image, style_text}
use Rattle.html_page.specs.Pages.{event_tokens, event_half, tokens_of, half_of, body_tokens, front_tokens, style_tokens}
use Rattle.html_page.specs.Pages.{back_tokens, page_tokens, page_text, picture_tokens}
use Rattle.html_page.specs.Known.{IsKnownToken, IsKnownName, IsKnownAttribute, IsKnownStart, IsKnownEnd}
use Rattle.html_page.specs.Laws.{TagsAreKnown}
use Rattle.html_page.proofs.CloseLemmas.{by_name, page_read}
use Rattle.std.specs.Prelude.{◌==◌, ◌&&◌, ◌-◌, ◌%◌, ◌⊎◌}
use Rattle.html_text.specs.Tokens.{escaped_text}
use Rattle.doc_model.specs.declared.document.Document.{Document}
use Rattle.doc_pictures.specs.declared.names.PictureName.{PictureName}
use Rattle.doc_pictures.specs.Files.{ImageFiles, picture_name_at}
use Rattle.html_page.specs.Images.{image_attributes, image_url}
use Rattle.html_page.specs.Sources.{PageSource}
use Rattle.field_links.specs.Laws.{IsSchemeUrl, IsLocalUrl}
use Rattle.field_links.specs.Urls.{anchor_name}
use Rattle.link_targets.specs.Links.{bookmark_name, instruction_of, url_in}
use Rattle.link_targets.proofs.Public.{known_url}
use Rattle.html_page.specs.Languages.{language_attributes, language_code}
use Rattle.html_page.specs.Pages.{meta_tokens}
use Rattle.html_page.specs.Tags.{anchor_attributes, link_attributes, plain_attributes}
use Rattle.text_codes.specs.Halves.{half_text}

abbrev AreKnown : ImageFiles → List Token → Type 0
AreKnown images tokens = All (IsKnownToken images) tokens

none_known : (images : ImageFiles) → AreKnown images []
none_known images = All-nil (IsKnownToken images)

known-append : (images : ImageFiles) (xs ys : List Token) → AreKnown images xs → AreKnown images ys → AreKnown images (xs ++ ys)
known-append images xs ys one other = All-append (IsKnownToken images) xs ys one other

known-cons : (images : ImageFiles) (token : Token) (tokens : List Token) → IsKnownToken images token → AreKnown images
    tokens → AreKnown images (token ∷ tokens)
known-cons images token tokens one other = All-cons (IsKnownToken images) token tokens one other

known-characters : (images : ImageFiles) (text : List ℕ) → AreKnown images (characters text)
known-characters images [] = none_known images
known-characters images (code ∷ text) = known-cons images (Character code) (characters text) tt (known-characters images text)

known-line : (images : ImageFiles) (line : Bool) → AreKnown images (if line then Character 10 ∷ [] else [])
known-line images true = known-cons images (Character 10) [] tt (none_known images)
known-line images false = none_known images

-- ---- tags

abbrev AreKnownAttributes : ImageFiles → List (List ℕ) → Type 0
AreKnownAttributes images attributes = All (IsKnownAttribute images) attributes

no_attributes : (images : ImageFiles) → AreKnownAttributes images []
no_attributes images = All-nil (IsKnownAttribute images)

attribute-cons : (images : ImageFiles) (text : List ℕ) (more : List (List ℕ)) → IsKnownAttribute images text → AreKnownAttributes images more →
    AreKnownAttributes images (text ∷ more)
attribute-cons images text more one other = All-cons (IsKnownAttribute images) text more one other

one_attribute : (images : ImageFiles) (text : List ℕ) → IsKnownAttribute images text → AreKnownAttributes images (text ∷ [])
one_attribute images text known = attribute-cons images text [] known (no_attributes images)

start_is_known : (images : ImageFiles) (name : List ℕ) (attributes : List (List ℕ)) → IsKnownName name → AreKnownAttributes images attributes →
    IsKnownToken images (start_tag name attributes)
start_is_known images name attributes known all =
    inl (record { name = name; attributes = attributes; text = refl; known = known; all = all })

end_is_known : (images : ImageFiles) (name : List ℕ) → IsKnownName name → IsKnownToken images (end name)
end_is_known images name known = inr (record { name = name; text = refl; known = known })

known_name : (e : Element) → IsKnownName (element_name e)
known_name e =
    by_name e IsKnownName (7, refl) (8, refl) (9, refl) (10, refl) (11, refl) (12, refl) (13, refl) (14, refl) (
      15,
      refl,
    ) (16, refl) (17, refl) (18, refl) (19, refl) (20, refl) (21, refl) (22, refl) (23, refl) (24, refl) (
      25,
      refl,
    ) (26, refl) (27, refl) (28, refl) (29, refl) (30, refl) (31, refl) (32, refl)

optional-known : (images : ImageFiles) (there : Bool) (text : List ℕ) (more : List (List ℕ)) → IsKnownAttribute images text → AreKnownAttributes images
    more →
    AreKnownAttributes images (optional there text ++ more)
optional-known images true text more one other = attribute-cons images text more one other
optional-known images false text more one other = other

optional-one : (images : ImageFiles) (there : Bool) (text : List ℕ) → IsKnownAttribute images text → AreKnownAttributes images (optional there text)
optional-one images true text one = one_attribute images text one
optional-one images false text one = no_attributes images

known_span : (images : ImageFiles) (span : Option Span) → AreKnownAttributes images (span_attributes span)
known_span images None = no_attributes images
known_span images (Some span) =
    let rows = attribute (codes "rowspan") (decimal span.rows) in
    optional-known images (nat_le 2 span.columns) (attribute (codes "colspan") (decimal span.columns)) (optional (nat_le 2
    span.rows) rows) (inl (span.columns, (25, refl))) (optional-one images (nat_le 2 span.rows) rows (inl (
      span.rows,
      (
        26,
        refl,
      ),
    )))

known_plain : (images : ImageFiles) (e : Element) → AreKnownAttributes images (plain_attributes e)
known_plain images Notes = one_attribute images (attribute (codes "aria-label") (codes "notes")) (inl (0, (4, refl)))
known_plain images (Note number) =
    attribute-cons images (attribute (codes "id") (codes "fn-" ++ decimal number)) (attribute (codes "role") (codes
    "doc-footnote")
    ∷ []) (inl (number, (5, refl))) (one_attribute images (attribute (codes "role") (codes "doc-footnote")) (inl (0, (6, refl))))
known_plain images (Table first) = no_attributes images
known_plain images TableHead = no_attributes images
known_plain images TableBody = no_attributes images
known_plain images (Row first) = no_attributes images
known_plain images (Cell cell) = known_span images cell.span
known_plain images (HeadCell cell) =
    attribute-cons images (attribute (codes "scope") (codes "col")) (span_attributes cell.span) (inl (0, (7, refl))) (known_span images
    cell.span)
known_plain images (NestedTable first) = no_attributes images
known_plain images (NestedRow first) = no_attributes images
known_plain images (NestedCell number) = no_attributes images
known_plain images (AList list) =
    optional-one images list.is_ordered (attribute (codes "style") (codes "list-style:none")) (inl (0, (8, refl)))
known_plain images (Item number) = no_attributes images
known_plain images (Paragraph paragraph) =
    optional-known images (nat_le 7 paragraph.level) (attribute (codes "aria-level") (decimal paragraph.level)) (optional
    paragraph.right_to_left (attribute (codes "dir") (codes "rtl")) ++ optional paragraph.breaks_page (attribute (codes
    "style") (codes "break-before:page"))) (inl (paragraph.level, (9, refl))) (optional-known images paragraph.right_to_left
    (attribute (codes "dir") (codes "rtl")) (optional paragraph.breaks_page (attribute (codes "style") (codes
    "break-before:page"))) (inl (0, (10, refl))) (optional-one images paragraph.breaks_page (attribute (codes "style") (codes
    "break-before:page")) (inl (0, (11, refl)))))
known_plain images Label = one_attribute images (attribute (codes "class") (codes "n")) (inl (0, (12, refl)))
known_plain images (Reference number) =
    attribute-cons images (attribute (codes "id") (codes "fnref-" ++ decimal number)) (attribute (codes "href") (codes "#fn-"
    ++
    decimal number) ∷ attribute (codes "role") (codes "doc-noteref") ∷ []) (inl (number, (13, refl))) (attribute-cons images
    (attribute
    (codes "href") (codes "#fn-" ++ decimal number)) (attribute (codes "role") (codes "doc-noteref") ∷ []) (inl (number, (14, refl))) (one_attribute images (attribute (codes "role") (codes "doc-noteref")) (inl (0, (15, refl)))))
known_plain images (BackLink number) =
    attribute-cons images (attribute (codes "href") (codes "#fnref-" ++ decimal number)) (attribute (codes "role") (codes
    "doc-backlink") ∷ []) (inl (number, (16, refl))) (one_attribute images (attribute (codes "role") (codes "doc-backlink")) (inl (0, (17, refl))))
known_plain images Bold = no_attributes images
known_plain images Italic = no_attributes images
known_plain images Underline = no_attributes images
known_plain images Strike = no_attributes images
known_plain images SmallCaps =
    one_attribute images (attribute (codes "style") (codes "font-variant:small-caps")) (inl (0, (18, refl)))
known_plain images Caps =
    one_attribute images (attribute (codes "style") (codes "text-transform:uppercase")) (inl (0, (19, refl)))
known_plain images Raised = no_attributes images
known_plain images Lowered = no_attributes images
known_plain images (Link link) = no_attributes images
known_plain images (Anchor number) = no_attributes images

known_link : (images : ImageFiles) (url : Option (List ℕ)) → ((text : List ℕ) → url ≡ Some text → IsSchemeUrl text ⊎ IsLocalUrl text) →
    AreKnownAttributes images (link_attributes url)
known_link images None each = no_attributes images
known_link images (Some url) each =
    one_attribute images (attribute (codes "href") (escaped_text url)) (inr (inl (record {
      url = url;
      allowed = each url refl;
      value = refl;
    })))

known_anchor : (images : ImageFiles) (name : Option (List ℕ)) → AreKnownAttributes images (anchor_attributes name)
known_anchor images None = no_attributes images
known_anchor images (Some name) =
    one_attribute images (attribute (codes "id") (escaped_text (anchor_name name))) (inr (inr (inl (record {
      name = name;
      value = refl;
    }))))

known_attributes_of : (images : ImageFiles) (document : Document) (e : Element) → AreKnownAttributes images (attributes_of document e)
known_attributes_of images document Notes = known_plain images Notes
known_attributes_of images document (Note number) = known_plain images (Note number)
known_attributes_of images document (Table first) = known_plain images (Table first)
known_attributes_of images document TableHead = known_plain images TableHead
known_attributes_of images document TableBody = known_plain images TableBody
known_attributes_of images document (Row first) = known_plain images (Row first)
known_attributes_of images document (Cell cell) = known_plain images (Cell cell)
known_attributes_of images document (HeadCell cell) = known_plain images (HeadCell cell)
known_attributes_of images document (NestedTable first) = known_plain images (NestedTable first)
known_attributes_of images document (NestedRow first) = known_plain images (NestedRow first)
known_attributes_of images document (NestedCell number) = known_plain images (NestedCell number)
known_attributes_of images document (AList list) = known_plain images (AList list)
known_attributes_of images document (Item number) = known_plain images (Item number)
known_attributes_of images document (Paragraph paragraph) = known_plain images (Paragraph paragraph)
known_attributes_of images document Label = known_plain images Label
known_attributes_of images document (Reference number) = known_plain images (Reference number)
known_attributes_of images document (BackLink number) = known_plain images (BackLink number)
known_attributes_of images document Bold = known_plain images Bold
known_attributes_of images document Italic = known_plain images Italic
known_attributes_of images document Underline = known_plain images Underline
known_attributes_of images document Strike = known_plain images Strike
known_attributes_of images document SmallCaps = known_plain images SmallCaps
known_attributes_of images document Caps = known_plain images Caps
known_attributes_of images document Raised = known_plain images Raised
known_attributes_of images document Lowered = known_plain images Lowered
known_attributes_of images document (Link link) =
    known_link images (url_in (instruction_of document link)) (known_url (instruction_of document link))
known_attributes_of images document (Anchor number) = known_anchor images (bookmark_name document number)

known-where : (images : ImageFiles) (there : Bool) (tokens : List Token) → AreKnown images tokens → AreKnown images (if there then tokens else [])
known-where images true tokens is = is
known-where images false tokens is = none_known images

known-start : (images : ImageFiles) (document : Document) (e : Element) → AreKnown images (start_tokens document e)
known-start images document e =
    known-cons images (start_tag (element_name e) (attributes_of document e)) [] (start_is_known images (element_name e)
    (attributes_of document e) (known_name e)
    (known_attributes_of images document e)) (none_known images)

known-open : (images : ImageFiles) (document : Document) (e : Element) → AreKnown images (open_tokens document e)
known-open images document e = known-where images (has_tags e) (start_tokens document e) (known-start images document e)

known-end : (images : ImageFiles) (e : Element) → AreKnown images (end_tokens e)
known-end images e =
    known-cons images (end (element_name e)) (if ends_line e then Character 10 ∷ [] else []) (end_is_known images
    (element_name e) (known_name
    e))
    (known-line images (ends_line e))

known-close : (images : ImageFiles) (e : Element) → AreKnown images (close_tokens e)
known-close images e = known-where images (has_tags e) (end_tokens e) (known-end images e)

known-image : (images : ImageFiles) (name : List ℕ) → IsKnownAttribute images (attribute (codes "aria-label") name) → AreKnown images (image name)
known-image images name known =
    let attributes = attribute (codes "role") (codes "img") ∷ attribute (codes "aria-label") name ∷ [] in
    known-cons images (start_tag (codes "span") attributes) (characters (91 ∷ (name ++ 93 ∷ [])) ++ end (codes "span") ∷ [])
    (start_is_known images (codes "span") attributes (25, refl) (attribute-cons images (attribute (codes "role") (codes "img"))
    (attribute
    (codes "aria-label") name ∷ []) (inl (0, (20, refl))) (one_attribute images (attribute (codes "aria-label") name) known)))
    (known-append images (characters (91 ∷ (name ++ 93 ∷ []))) (end (codes "span") ∷ []) (known-characters images (91 ∷ (name ++ 93 ∷
    []))) (known-cons images (end (codes "span")) [] (end_is_known images (codes "span") (25, refl)) (none_known images)))

-- the image of the file of a picture, or what it is called
known-picture : (images : ImageFiles) (place : Option ℕ) (name : Option PictureName) →
    picture_name_at images.pictures place ≡ name → AreKnown images (picture_tokens images.folder name)
known-picture images place None is = known-image images (codes "picture") (inl (0, (21, refl)))
known-picture images place (Some name) is =
    let src = attribute (codes "src") (escaped_text (image_url images.folder name)) in
    let alt = attribute (codes "alt") [] in
    let attributes = image_attributes images.folder name in
    known-cons images (start_tag (codes "img") attributes) [] (start_is_known images (codes "img") attributes (34, refl)
    (attribute-cons images src (alt ∷ []) (inr (inr (inr (record {
      place = place;
      name = name;
      file = is;
      value = refl;
    })))) (one_attribute images alt (inl (0, (27, refl)))))) (none_known images)

known-other : (images : ImageFiles) (g : Glyph) → AreKnown images (other_tokens images g)
known-other images (Unit unit) = none_known images
known-other images Tab = known-cons images (Character 9) [] tt (none_known images)
known-other images LineBreak =
    known-cons images (start_tag (codes "br") []) [] (start_is_known images (codes "br") [] (33, refl) (no_attributes images)) (none_known images)
known-other images PageBreak =
    known-cons images (start_tag (codes "br") (attribute (codes "style") (codes "break-after:page") ∷ [])) [] (start_is_known images
    (codes
    "br") (attribute (codes "style") (codes "break-after:page") ∷ []) (33, refl) (one_attribute images (attribute (codes
    "style")
    (codes "break-after:page")) (inl (0, (23, refl))))) (none_known images)
known-other images (NoteMark number) = known-characters images (decimal number)
known-other images (Picture place) = known-picture images place (picture_name_at images.pictures place) refl
known-other images Object = known-image images (codes "object") (inl (0, (22, refl)))

known-behind : (images : ImageFiles) (half : Option ℕ) (tokens : List Token) → AreKnown images tokens → AreKnown images (characters (half_text half) ++
    tokens)
known-behind images half tokens h = known-append images (characters (half_text half)) tokens (known-characters images (half_text half)) h

known-glyph : (images : ImageFiles) (half : Option ℕ) (g : Glyph) → AreKnown images (glyph_tokens images half g)
known-glyph images half (Unit unit) = known-characters images (unit_text half unit)
known-glyph images half Tab = known-behind images half (other_tokens images Tab) (known-other images Tab)
known-glyph images half LineBreak = known-behind images half (other_tokens images LineBreak) (known-other images LineBreak)
known-glyph images half PageBreak = known-behind images half (other_tokens images PageBreak) (known-other images PageBreak)
known-glyph images half (NoteMark number) = known-behind images half (other_tokens images (NoteMark number)) (known-other images (NoteMark number))
known-glyph images half (Picture place) = known-behind images half (other_tokens images (Picture place)) (known-other images (Picture place))
known-glyph images half Object = known-behind images half (other_tokens images Object) (known-other images Object)

known-event : (source : PageSource) (half : Option ℕ) (event : Event Element Glyph) → AreKnown source.images (event_tokens source half event)
known-event source half (Turn (Open path e)) = known-behind source.images half (open_tokens source.document e) (known-open source.images source.document e)
known-event source half (Turn (Close path e)) = known-behind source.images half (close_tokens e) (known-close source.images e)
known-event source half (Leaf path g) = known-glyph source.images half g

known-events : (source : PageSource) (half : Option ℕ) (events : Events) → AreKnown source.images (tokens_of source half events)
unfolding tokens_of
known-events source half [] = none_known source.images
known-events source half (event ∷ events) =
    known-append source.images (event_tokens source half event) (tokens_of source (event_half half event) events) (known-event source half event)
    (known-events source (event_half half event) events)

known-body : (source : PageSource) (places : Places) → AreKnown source.images (body_tokens source places)
known-body source places =
    let events = events_from same [] places in
    known-append source.images (tokens_of source None events) (characters (half_text (half_of None events))) (known-events source None events)
    (known-characters source.images (half_text (half_of None events)))

-- ---- what is round the text

abbrev line_end : Token
line_end = Character 10

plain_start : (images : ImageFiles) (name : List ℕ) (more : List Token) → IsKnownName name → AreKnown images more →
    AreKnown images (start_tag name [] ∷
    line_end ∷
    more)
plain_start images name more known rest =
    known-cons images (start_tag name []) (line_end ∷ more) (start_is_known images name [] known (no_attributes images))
    (known-cons images line_end
    more tt
    rest)

plain_end : (images : ImageFiles) (name : List ℕ) (more : List Token) → IsKnownName name → AreKnown images more → AreKnown images (end name ∷ line_end ∷
    more)
plain_end images name more known rest =
    known-cons images (end name) (line_end ∷ more) (end_is_known images name known) (known-cons images line_end more tt rest)

a_start : (images : ImageFiles) (name : List ℕ) (attributes : List (List ℕ)) (more : List Token) → IsKnownName name → AreKnownAttributes images
    attributes → AreKnown images more → AreKnown images (start_tag name attributes ∷ line_end ∷ more)
a_start images name attributes more known all rest =
    known-cons images (start_tag name attributes) (line_end ∷ more) (start_is_known images name attributes known all)
    (known-cons images line_end
    more tt rest)

abbrev in_head : List Token
in_head = start_tag (codes "title") [] ∷ []

abbrev viewport : List (List ℕ)
viewport =
    attribute (codes "name") (codes "viewport") ∷ attribute (codes "content") (codes
    "width=device-width,initial-scale=1")
    ∷ []

abbrev in_metas : List Token
in_metas = start_tag (codes "meta") viewport ∷ line_end ∷ in_head

abbrev in_html : List Token
in_html = start_tag (codes "meta") (attribute (codes "charset") (codes "utf-8") ∷ []) ∷ line_end ∷ in_metas

known-metas : (images : ImageFiles) → AreKnown images meta_tokens
known-metas images =
    plain_start images (codes "head") in_html (2, refl) (a_start images (codes "meta") (attribute (codes "charset") (codes "utf-8") ∷
    []) in_metas (3, refl) (one_attribute images (attribute (codes "charset") (codes "utf-8")) (inl (0, (1, refl)))) (a_start images
    (codes "meta") viewport in_head (3, refl) (attribute-cons images (attribute (codes "name") (codes "viewport")) (attribute
    (codes "content") (codes "width=device-width,initial-scale=1") ∷ []) (inl (0, (2, refl))) (one_attribute images (attribute
    (codes "content") (codes "width=device-width,initial-scale=1")) (inl (0, (3, refl)))))
    (known-cons images (start_tag (codes "title") []) [] (start_is_known images (codes "title") [] (4, refl) (no_attributes images))
    (none_known images))))

known-language : (images : ImageFiles) (language : Option ℕ) → AreKnownAttributes images (language_attributes language)
known-language images None = no_attributes images
known-language images (Some identifier) =
    let number = identifier % 1024 - 1 in
    elim (nat_le 1 (identifier % 1024) && nat_le (identifier % 1024) 45) as (λ (b : Bool). AreKnownAttributes images (if b
    then attribute (codes "lang") (language_code number) ∷ [] else [])) [
      | true ↦ one_attribute images (attribute (codes "lang") (language_code number)) (inl (number, (24, refl)))
      | false ↦ no_attributes images
    ]

known-front : (images : ImageFiles) (language : Option ℕ) → AreKnown images (front_tokens language)
known-front images language =
    a_start images (codes "!DOCTYPE") (codes "html" ∷ []) (start_tag (codes "html") (language_attributes language) ∷ line_end ∷
    meta_tokens) (0, refl) (one_attribute images (codes "html") (inl (0, (0, refl)))) (a_start images (codes "html")
    (language_attributes language) meta_tokens (1, refl) (known-language images language) (known-metas images))

abbrev in_body : List Token
in_body = end (codes "style") ∷ line_end ∷ end (codes "head") ∷ line_end ∷ start_tag (codes "body") [] ∷ line_end ∷ []

known-style : (images : ImageFiles) → AreKnown images style_tokens
known-style images =
    plain_end images (codes "title") (start_tag (codes "style") [] ∷ (characters style_text ++ in_body)) (4, refl) (known-cons images
    (start_tag
    (codes "style") []) (characters style_text ++ in_body) (start_is_known images (codes "style") [] (5, refl) (no_attributes images))
    (known-append images (characters style_text) in_body (known-characters images style_text) (plain_end images (codes "style") (end (codes
    "head") ∷ line_end ∷ start_tag (codes "body") [] ∷ line_end ∷ []) (5, refl) (plain_end images (codes "head") (start_tag (codes
    "body") [] ∷ line_end ∷ []) (2, refl) (plain_start images (codes "body") [] (6, refl) (none_known images))))))

known-back : (images : ImageFiles) → AreKnown images back_tokens
known-back images =
    plain_end images (codes "body") (end (codes "html") ∷ line_end ∷ []) (6, refl) (plain_end images (codes "html") [] (1, refl)
    (none_known images))

known-page : (source : PageSource) (head : Head) (places : Places) → AreKnown source.images (page_tokens source head places)
known-page source head places =
    known-append source.images (front_tokens head.language) (characters head.title ++ (style_tokens ++ (body_tokens source places
    ++ back_tokens))) (known-front source.images head.language)
    (known-append source.images (characters head.title) (style_tokens ++ (body_tokens source places ++ back_tokens))
    (known-characters source.images head.title)
    (known-append source.images style_tokens (body_tokens source places ++ back_tokens) (known-style source.images) (known-append source.images (body_tokens
    source places) back_tokens (known-body source places) (known-back source.images))))

pub tags_known : TagsAreKnown
tags_known source head places =
    subst (λ (tokens : List Token). All (IsKnownToken source.images) tokens) (sym (page_read source head places))
    (known-page source
    head places)
