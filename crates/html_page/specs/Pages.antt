-- The tokens of a page: what its events open, close and show.
use Rattle.std.specs.Prelude.{ℕ, Bool, ◌==◌, ◌||◌, List, [], ◌∷◌, ◌++◌, map, codes, Option, None, Some, if◌then◌else◌}
use Rattle.std.specs.Fmt.{decimal}
use Rattle.doc_model.specs.declared.document.Document.{Document}
use Rattle.doc_pictures.specs.declared.names.PictureName.{PictureName}
use Rattle.doc_pictures.specs.Files.{ImageFiles, picture_name_at}
use Rattle.html_text.specs.Tokens.{Token, Character, Tag, printed}
use Rattle.view_paths.specs.Paths.{PathPlace}
use Rattle.view_paths.specs.Events.{Event, Turn, Leaf, Open, Close, events_from}
use Rattle.view_paths.specs.Events.{Tag as PathTag}
use Rattle.view_places.specs.declared.element.Element.{Element}
use Rattle.view_places.specs.declared.glyph.Glyph.{Glyph}
use Rattle.view_places.specs.declared.glyph.Glyph.TheVariants.{Unit, Tab, LineBreak, PageBreak, NoteMark, Picture}
use Rattle.view_places.specs.declared.glyph.Glyph.TheVariants.{Object}
use Rattle.view_places.specs.Same.{same}
use Rattle.html_page.specs.Tags.{element_name, attributes_of, attribute, start_text, ends_line, has_tags}
use Rattle.html_page.specs.Languages.{language_attributes}
use Rattle.html_page.specs.Sources.{PageSource}
use Rattle.html_page.specs.Images.{image_attributes}
use Rattle.glyph_units.specs.Units.{unit_text, unit_half}
use Rattle.text_codes.specs.Halves.{half_text}

abbrev pub Places : Type 0
Places = List (PathPlace Element Glyph)

abbrev pub Events : Type 0
Events = List (Event Element Glyph)

-- a text as characters
abbrev pub characters : List ℕ → List Token
characters text = map Character text

-- a character that a reference represents
abbrev pub is_referred : ℕ → Bool
is_referred code = code == 38 || (code == 60 || (code == 62 || code == 34))

abbrev pub start_tag : List ℕ → List (List ℕ) → Token
start_tag name attributes = Tag (start_text name attributes)

abbrev pub end : List ℕ → Token
end name = Tag (47 ∷ name)

-- an element is opened or closed
abbrev pub start_tokens : Document → Element → List Token
start_tokens document element = start_tag (element_name element) (attributes_of document element) ∷ []

abbrev pub end_tokens : Element → List Token
end_tokens element = end (element_name element) ∷ (if ends_line element then Character 10 ∷ [] else [])

abbrev pub open_tokens : Document → Element → List Token
open_tokens document element = if has_tags element then start_tokens document element else []

abbrev pub close_tokens : Element → List Token
close_tokens element = if has_tags element then end_tokens element else []

abbrev pub tag_tokens : Document → PathTag Element → List Token
tag_tokens document (Open path element) = open_tokens document element
tag_tokens document (Close path element) = close_tokens element

-- an image that is not shown, by what it is called
abbrev pub image : List ℕ → List Token
image name =
    start_tag (codes "span") (attribute (codes "role") (codes "img") ∷ attribute (codes "aria-label") name ∷ [])
    ∷ (characters (91 ∷ (name ++ 93 ∷ [])) ++ end (codes "span") ∷ [])

-- a picture by its file in a folder; one without a file is not shown
abbrev pub picture_tokens : List ℕ → Option PictureName → List Token
picture_tokens folder None = image (codes "picture")
picture_tokens folder (Some name) = start_tag (codes "img") (image_attributes folder name) ∷ []

abbrev pub page_break_tokens : List Token
page_break_tokens = start_tag (codes "br") (attribute (codes "style") (codes "break-after:page") ∷ []) ∷ []

-- a glyph that is no unit; the number of a note is in the link to it
abbrev pub other_tokens : ImageFiles → Glyph → List Token
other_tokens images (Unit unit) = []
other_tokens images Tab = Character 9 ∷ []
other_tokens images LineBreak = start_tag (codes "br") [] ∷ []
other_tokens images PageBreak = page_break_tokens
other_tokens images (NoteMark number) = characters (decimal number)
other_tokens images (Picture place) = picture_tokens images.folder (picture_name_at images.pictures place)
other_tokens images Object = image (codes "object")

-- a glyph where a half of a character waits or none
abbrev pub glyph_tokens : ImageFiles → Option ℕ → Glyph → List Token
glyph_tokens images half (Unit unit) = characters (unit_text half unit)
glyph_tokens images half Tab = characters (half_text half) ++ other_tokens images Tab
glyph_tokens images half LineBreak = characters (half_text half) ++ other_tokens images LineBreak
glyph_tokens images half PageBreak = characters (half_text half) ++ other_tokens images PageBreak
glyph_tokens images half (NoteMark number) = characters (half_text half) ++ other_tokens images (NoteMark number)
glyph_tokens images half (Picture place) = characters (half_text half) ++ other_tokens images (Picture place)
glyph_tokens images half Object = characters (half_text half) ++ other_tokens images Object

-- what waits behind it
abbrev pub glyph_half : Option ℕ → Glyph → Option ℕ
glyph_half half (Unit unit) = unit_half half unit
glyph_half half Tab = None
glyph_half half LineBreak = None
glyph_half half PageBreak = None
glyph_half half (NoteMark number) = None
glyph_half half (Picture place) = None
glyph_half half Object = None

abbrev pub event_tokens : PageSource → Option ℕ → Event Element Glyph → List Token
event_tokens source half (Turn tag) = characters (half_text half) ++ tag_tokens source.document tag
event_tokens source half (Leaf path glyph) = glyph_tokens source.images half glyph

abbrev pub event_half : Option ℕ → Event Element Glyph → Option ℕ
event_half half (Turn tag) = None
event_half half (Leaf path glyph) = glyph_half half glyph

-- events where a half waits or none: so the halves of a character are one where nothing is between them
unfoldable pub tokens_of : PageSource → Option ℕ → Events → List Token
tokens_of source half [] = []
tokens_of source half (event ∷ events) =
    event_tokens source half event ++ tokens_of source (event_half half event) events

-- what waits behind them
unfoldable pub half_of : Option ℕ → Events → Option ℕ
half_of half [] = half
half_of half (event ∷ events) = half_of (event_half half event) events

-- the text of places, from the first to the end of the last
abbrev pub body_tokens : PageSource → Places → List Token
body_tokens source places =
    let events = events_from same [] places in
    tokens_of source None events ++ characters (half_text (half_of None events))

-- how a page looks
abbrev pub style_text : List ℕ
style_text =
    codes "p,h1,h2,h3,h4,h5,h6{white-space:pre-wrap}"
    ++ (codes "td p,th p{margin:0}table{border-collapse:collapse}"
    ++ codes "td,th{border:1px solid;padding:.2em;vertical-align:top}")

-- what is said of a page: its language, by [MS-LCID], and its title
pub record Head : Type 0 where
  pub language : Option ℕ
  pub title : List ℕ

-- what is before the title
abbrev pub meta_tokens : List Token
meta_tokens =
    start_tag (codes "head") []
    ∷ Character 10
    ∷ start_tag (codes "meta") (attribute (codes "charset") (codes "utf-8") ∷ [])
    ∷ Character 10
    ∷ start_tag (codes "meta") (attribute (codes "name") (codes "viewport")
    ∷ attribute (codes "content") (codes "width=device-width,initial-scale=1") ∷ [])
    ∷ Character 10
    ∷ start_tag (codes "title") []
    ∷ []

abbrev pub front_tokens : Option ℕ → List Token
front_tokens language =
    start_tag (codes "!DOCTYPE") (codes "html" ∷ [])
    ∷ Character 10
    ∷ start_tag (codes "html") (language_attributes language)
    ∷ Character 10
    ∷ meta_tokens

-- between the title and the text
abbrev pub style_tokens : List Token
style_tokens =
    end (codes "title")
    ∷ Character 10
    ∷ start_tag (codes "style") []
    ∷ (characters style_text
    ++ (end (codes "style")
    ∷ Character 10
    ∷ end (codes "head")
    ∷ Character 10
    ∷ start_tag (codes "body") []
    ∷ Character 10
    ∷ []))

-- behind the text
abbrev pub back_tokens : List Token
back_tokens = end (codes "body") ∷ Character 10 ∷ end (codes "html") ∷ Character 10 ∷ []

-- a page, by its head and the places of its text
abbrev pub page_tokens : PageSource → Head → Places → List Token
page_tokens source head places =
    front_tokens head.language
    ++ (characters head.title ++ (style_tokens ++ (body_tokens source places ++ back_tokens)))

-- the characters of a page
abbrev pub page_text : PageSource → Head → Places → List ℕ
page_text source head places = printed (page_tokens source head places)
