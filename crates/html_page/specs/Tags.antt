-- The tags of elements: a name, and attributes, each after a space. Their values are of this file, with the number of a note,
-- the URL of a link or the name of a bookmark.
use Rattle.std.specs.Prelude.{ℕ, ◌==◌, nat_le, Bool, true, false, List, [], ◌∷◌, ◌++◌, codes, if◌then◌else◌}
use Rattle.std.specs.Prelude.{Option, None, Some, is_some}
use Rattle.std.specs.Fmt.{decimal}
use Rattle.std.specs.List.{flat_map}
use Rattle.html_text.specs.Tokens.{escaped_text}
use Rattle.doc_model.specs.declared.document.Document.{Document}
use Rattle.field_links.specs.Urls.{anchor_name}
use Rattle.view_places.specs.declared.element.Element.{Element}
use Rattle.view_places.specs.declared.element.Element.TheVariants.{Notes, Note, Table, TableHead, TableBody, Row, Cell}
use Rattle.view_places.specs.declared.element.Element.TheVariants.{HeadCell, List as AList, Item, Paragraph, Label}
use Rattle.view_places.specs.declared.element.Element.TheVariants.{Reference, BackLink, Bold, Italic, Underline, Strike}
use Rattle.view_places.specs.declared.element.Element.TheVariants.{SmallCaps, Caps, Raised, Lowered, Link, Anchor}
use Rattle.view_places.specs.declared.element.Element.TheVariants.{NestedTable, NestedRow, NestedCell}
use Rattle.view_places.specs.declared.element.Paragraph.{Paragraph as ParagraphForm}
use Rattle.view_places.specs.declared.element.Span.{Span}
use Rattle.link_targets.specs.Links.{bookmark_name, instruction_of, url_in}

-- a heading below the sixth level is one of the sixth, and says its level
abbrev pub paragraph_name : ℕ → List ℕ
paragraph_name level =
    if level == 0 then codes "p" else
    if level == 1 then codes "h1" else
    if level == 2 then codes "h2" else
    if level == 3 then codes "h3" else
    if level == 4 then codes "h4" else
    if level == 5 then codes "h5" else codes "h6"

abbrev pub element_name : Element → List ℕ
element_name Notes = codes "section"
element_name (Note number) = codes "aside"
element_name (Table first) = codes "table"
element_name TableHead = codes "thead"
element_name TableBody = codes "tbody"
element_name (Row first) = codes "tr"
element_name (Cell cell) = codes "td"
element_name (HeadCell cell) = codes "th"
element_name (NestedTable first) = codes "table"
element_name (NestedRow first) = codes "tr"
element_name (NestedCell number) = codes "td"
element_name (AList list) = if list.is_ordered then codes "ol" else codes "ul"
element_name (Item number) = codes "li"
element_name (Paragraph paragraph) = paragraph_name paragraph.level
element_name Label = codes "span"
element_name (Reference number) = codes "a"
element_name (BackLink number) = codes "a"
element_name Bold = codes "b"
element_name Italic = codes "i"
element_name Underline = codes "u"
element_name Strike = codes "s"
element_name SmallCaps = codes "span"
element_name Caps = codes "span"
element_name Raised = codes "sup"
element_name Lowered = codes "sub"
element_name (Link link) = codes "a"
element_name (Anchor number) = codes "span"

-- a name, and what is between quotes behind it
abbrev pub attribute : List ℕ → List ℕ → List ℕ
attribute name value = name ++ (61 ∷ 34 ∷ (value ++ 34 ∷ []))

-- an attribute, where it is there
abbrev pub optional : Bool → List ℕ → List (List ℕ)
optional there text = if there then text ∷ [] else []

abbrev pub paragraph_attributes : ParagraphForm → List (List ℕ)
paragraph_attributes paragraph =
    optional (nat_le 7 paragraph.level) (attribute (codes "aria-level") (decimal paragraph.level))
    ++ (optional paragraph.right_to_left (attribute (codes "dir") (codes "rtl"))
    ++ optional paragraph.breaks_page (attribute (codes "style") (codes "break-before:page")))

-- how far a cell reaches
abbrev pub reach_attributes : Span → List (List ℕ)
reach_attributes span =
    optional (nat_le 2 span.columns) (attribute (codes "colspan") (decimal span.columns))
    ++ optional (nat_le 2 span.rows) (attribute (codes "rowspan") (decimal span.rows))

abbrev pub span_attributes : Option Span → List (List ℕ)
span_attributes None = []
span_attributes (Some span) = reach_attributes span

-- a link, where it leads somewhere
abbrev pub link_attributes : Option (List ℕ) → List (List ℕ)
link_attributes None = []
link_attributes (Some url) = attribute (codes "href") (escaped_text url) ∷ []

-- what the links to a bookmark lead to
abbrev pub anchor_attributes : Option (List ℕ) → List (List ℕ)
anchor_attributes None = []
anchor_attributes (Some name) = attribute (codes "id") (escaped_text (anchor_name name)) ∷ []

-- the attributes of elements that say nothing of a document but numbers
abbrev pub plain_attributes : Element → List (List ℕ)
plain_attributes Notes = attribute (codes "aria-label") (codes "notes") ∷ []
plain_attributes (Note number) =
    attribute (codes "id") (codes "fn-" ++ decimal number) ∷ attribute (codes "role") (codes "doc-footnote") ∷ []
plain_attributes (Table first) = []
plain_attributes TableHead = []
plain_attributes TableBody = []
plain_attributes (Row first) = []
plain_attributes (Cell cell) = span_attributes cell.span
plain_attributes (HeadCell cell) = attribute (codes "scope") (codes "col") ∷ span_attributes cell.span
plain_attributes (NestedTable first) = []
plain_attributes (NestedRow first) = []
plain_attributes (NestedCell number) = []
plain_attributes (AList list) = optional list.is_ordered (attribute (codes "style") (codes "list-style:none"))
plain_attributes (Item number) = []
plain_attributes (Paragraph paragraph) = paragraph_attributes paragraph
plain_attributes Label = attribute (codes "class") (codes "n") ∷ []
plain_attributes (Reference number) =
    attribute (codes "id") (codes "fnref-" ++ decimal number)
    ∷ attribute (codes "href") (codes "#fn-" ++ decimal number)
    ∷ attribute (codes "role") (codes "doc-noteref")
    ∷ []
plain_attributes (BackLink number) =
    attribute (codes "href") (codes "#fnref-" ++ decimal number) ∷ attribute (codes "role") (codes "doc-backlink") ∷ []
plain_attributes Bold = []
plain_attributes Italic = []
plain_attributes Underline = []
plain_attributes Strike = []
plain_attributes SmallCaps = attribute (codes "style") (codes "font-variant:small-caps") ∷ []
plain_attributes Caps = attribute (codes "style") (codes "text-transform:uppercase") ∷ []
plain_attributes Raised = []
plain_attributes Lowered = []
plain_attributes (Link link) = []
plain_attributes (Anchor number) = []

-- the attributes of an element of a page of the document
abbrev pub attributes_of : Document → Element → List (List ℕ)
attributes_of document (Link link) = link_attributes (url_in (instruction_of document link))
attributes_of document (Anchor number) = anchor_attributes (bookmark_name document number)
attributes_of document element = plain_attributes element

-- attributes as they are written
abbrev pub attributes_text : List (List ℕ) → List ℕ
attributes_text attributes = flat_map (λ attribute. 32 ∷ attribute) attributes

-- a start tag without its angles
abbrev pub start_text : List ℕ → List (List ℕ) → List ℕ
start_text name attributes = name ++ attributes_text attributes

-- a cell that is a part of another one has no tags
abbrev pub has_tags : Element → Bool
has_tags (Cell cell) = is_some cell.span
has_tags (HeadCell cell) = is_some cell.span
has_tags element = true

-- a line ends behind these
abbrev pub ends_line : Element → Bool
ends_line Notes = true
ends_line (Note number) = true
ends_line (Table first) = true
ends_line TableHead = true
ends_line TableBody = true
ends_line (Row first) = true
ends_line (Cell cell) = true
ends_line (HeadCell cell) = true
ends_line (NestedTable first) = true
ends_line (NestedRow first) = true
ends_line (NestedCell number) = true
ends_line (AList list) = true
ends_line (Item number) = true
ends_line (Paragraph paragraph) = true
ends_line Label = false
ends_line (Reference number) = false
ends_line (BackLink number) = true
ends_line Bold = false
ends_line Italic = false
ends_line Underline = false
ends_line Strike = false
ends_line SmallCaps = false
ends_line Caps = false
ends_line Raised = false
ends_line Lowered = false
ends_line (Link link) = false
ends_line (Anchor number) = false
