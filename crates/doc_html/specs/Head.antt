-- What is said of the page of a document.
use Rattle.std.specs.Prelude.{ℕ, ◌==◌, nat_lt, Bool, List, [], ◌∷◌, length, take, codes, Option, None, Some}
use Rattle.std.specs.Prelude.{if◌then◌else◌}
use Rattle.std.specs.List.{filter_map, list_any}
use Rattle.std.specs.FinMap.{get}
use Rattle.doc_bits.specs.Number.{u16_at}
use Rattle.style_sheet.specs.Sheet.{Sheet, style_at}
use Rattle.style_sheet.specs.declared.styles.Style.{Style}
use Rattle.style_sheet.specs.declared.styles.Kind.{Kind}
use Rattle.style_sheet.specs.declared.styles.Kind.TheVariants.{Para, Char, Other}
use Rattle.doc_model.specs.declared.document.Document.{Document}
use Rattle.view_places.specs.declared.glyph.Glyph.{Glyph}
use Rattle.view_places.specs.declared.glyph.Glyph.TheVariants.{Unit, Tab, LineBreak, PageBreak, NoteMark, Picture}
use Rattle.view_places.specs.declared.glyph.Glyph.TheVariants.{Object}
use Rattle.glyph_units.specs.Units.{units_text}
use Rattle.doc_view.specs.declared.reading.Seen.{Seen}
use Rattle.doc_view.specs.declared.view.Options.{Options}
use Rattle.doc_view.specs.Page.{header_manner}
use Rattle.doc_view.specs.Seen.{Formats, Paragraph, paragraphs_of, shown_glyph}
use Rattle.html_page.specs.Pages.{Head}

-- the value of the character properties of a style at a code
abbrev pub style_value : Kind → ℕ → Option (List ℕ)
style_value (Para pap chp) code = get chp code
style_value (Char chp) code = get chp code
style_value (Other stk upxes) code = None

-- a language identifier has two bytes
abbrev pub identifier_in : List ℕ → Option ℕ
identifier_in value = if length value == 2 then Some (u16_at value 0) else None

abbrev pub identifier_of : Option (List ℕ) → Option ℕ
identifier_of None = None
identifier_of (Some value) = identifier_in value

-- [MS-DOC] sprmCRgLid0, and before it sprmCRgLid0_80: the language of text that is not East Asian
abbrev pub later_language : Kind → Option ℕ
later_language kind = identifier_of (style_value kind 0x4873)

abbrev pub language_by : Kind → Option (List ℕ) → Option ℕ
language_by kind None = later_language kind
language_by kind (Some value) = identifier_in value

abbrev pub language_in : Kind → Option ℕ
language_in kind = language_by kind (style_value kind 0x486D)

abbrev pub language_at : Option Style → Option ℕ
language_at None = None
language_at (Some style) = language_in style.kind

-- Profile: the language of a page is that of style 0, on which others are mostly based
abbrev pub language_of : Sheet → Option ℕ
language_of sheet = language_at (style_at sheet 0)

-- ---- the title

-- what of a glyph is in a title: a space for each tab and break, and nothing for pictures
abbrev pub title_unit : Glyph → Option ℕ
title_unit (Unit unit) = Some unit
title_unit Tab = Some 0x20
title_unit LineBreak = Some 0x20
title_unit PageBreak = Some 0x20
title_unit (NoteMark number) = None
title_unit (Picture place) = None
title_unit Object = None

abbrev pub title_glyph : Option Glyph → Option ℕ
title_glyph None = None
title_glyph (Some glyph) = title_unit glyph

abbrev pub seen_unit : Seen → Option ℕ
seen_unit seen = title_glyph (shown_glyph seen)

-- Profile: a title has at most so many units
abbrev pub longest_title : ℕ
longest_title = 80

abbrev pub title_units : List Seen → List ℕ
title_units seen = take longest_title (filter_map seen_unit seen)

-- some unit is more than a space
abbrev pub is_title_text : List ℕ → Bool
is_title_text units = list_any (λ unit. nat_lt 0x20 unit) units

abbrev pub untitled : List ℕ
untitled = codes "Untitled"

-- that of the first paragraph that has one
unfoldable pub title_in : List Paragraph → List ℕ
title_in [] = untitled
title_in (paragraph ∷ more) =
    if is_title_text (title_units paragraph.items) then title_units paragraph.items else title_in more

-- Profile: the main text is read as the text of a header is, in which nothing refers to a note
abbrev pub document_title : Formats → Options → Document → List ℕ
document_title formats options document = title_in (paragraphs_of formats (header_manner options document)
    document.main)

abbrev pub page_head : Formats → Options → Document → Head
page_head formats options document =
    record { language = language_of document.sheet; title = units_text None (document_title formats options document) }
