-- A page in one of its forms, while it is printed and whole.
use Rattle.std.specs.Prelude.{◌≡◌, ℕ, List, [], ◌++◌, false, None, ⊤}
use Rattle.doc_outer.specs.declared.sink.Sink.{Ghosts}
use Rattle.page_out.specs.declared.page.Page.{Page}
use Rattle.page_out.specs.Printed.{Prints}
use Rattle.html_text.specs.Tokens.{printed}
use Rattle.view_paths.specs.Paths.{PathPlace}
use Rattle.view_paths.specs.Events.{turns}
use Rattle.view_places.specs.declared.element.Element.{Element}
use Rattle.view_places.specs.declared.glyph.Glyph.{Glyph}
use Rattle.view_places.specs.Same.{same}
use Rattle.html_page.specs.Sources.{PageSource, page_source_of}
use Rattle.html_page.specs.Pages.{Head, back_tokens, characters, front_tokens, half_of, style_tokens, tokens_of}
use Rattle.html_page.specs.Pages.{page_text as html_text}
use Rattle.html_page.specs.Printed.{PutsPlaces as PutsHtml}
use Rattle.markdown_page.specs.Pages.{closing_tokens, start_state}
use Rattle.markdown_page.specs.Pages.{page_text as markdown_text}
use Rattle.markdown_page.specs.Printed.{PutsTokens, state_in}
use Rattle.markdown_page.specs.Printed.{PutsPlaces as PutsMarkdown}
use Rattle.form_page.specs.declared.page.PageForm.{PageForm}
use Rattle.form_page.specs.declared.page.PageForm.TheVariants as form
use Rattle.form_page.specs.declared.page.FormPage.{FormPage}
use Rattle.form_page.specs.declared.page.FormPage.TheVariants.{Html, Markdown}
use Rattle.text_codes.specs.Halves.{half_text}

abbrev pub Places : Type 0
Places = List (PathPlace Element Glyph)

abbrev pub page_form_of : FormPage → PageForm
page_form_of (Html html) = form.Html
page_form_of (Markdown markdown) = form.Markdown

-- the characters of a page in a form, by what is said of it and the places of its text; of one in Markdown nothing is said
abbrev pub form_text : PageForm → PageSource → Head → Places → List ℕ
form_text form.Html source head places = html_text source head places
form_text form.Markdown source head places = markdown_text source.document places

-- what of it is on its way
abbrev pub page_in : FormPage → Page
page_in (Html html) = html.page
page_in (Markdown markdown) = markdown.pen.page

-- nothing was put, and this waits
abbrev pub IsFresh : FormPage → List ℕ → PageSource → Type 0
IsFresh (Html html) block source =
    (html.page ≡ record { block = block; failed = false })
    × ((html.path ≡ []) × ((html.half ≡ None) × (page_source_of html.source ≡ source)))
IsFresh (Markdown markdown) block source =
    (markdown.pen.page ≡ record { block = block; failed = false })
    × ((markdown.path ≡ []) × (state_in markdown ≡ start_state source.document))

-- no half of a character waits
abbrev pub HasNoHalf : FormPage → Type 0
HasNoHalf (Html html) = html.half ≡ None
HasNoHalf (Markdown markdown) = ⊤

-- what is before the text was printed
abbrev pub Begins : {K : Type 0} → Ghosts K → K → FormPage → K → FormPage → Head → Type 0
Begins sink before (Html html) after (Html left) head =
    Prints sink before html.page after left.page (printed (front_tokens head.language ++ (characters head.title ++ style_tokens)))
    × ((left.path ≡ html.path) × ((left.half ≡ None) × (left.source ≡ html.source)))
Begins sink before (Html html) after (Markdown left) head = ⊥
Begins sink before (Markdown markdown) after (Html left) head = ⊥
Begins sink before (Markdown markdown) after (Markdown left) head = (after ≡ before) × (left ≡ markdown)

-- places were printed, the last of which stays open
abbrev pub PutsPlaces : {K : Type 0} → Ghosts K → K → FormPage → K → FormPage → Places → Type 0
PutsPlaces sink before (Html html) after (Html left) places = PutsHtml sink before html after left places
PutsPlaces sink before (Html html) after (Markdown left) places = ⊥
PutsPlaces sink before (Markdown markdown) after (Html left) places = ⊥
PutsPlaces sink before (Markdown markdown) after (Markdown left) places =
    PutsMarkdown sink before markdown after left places

-- all was closed, and what is behind the text was printed
abbrev pub Ends : {K : Type 0} → Ghosts K → K → FormPage → K → FormPage → Type 0
Ends sink before (Html html) after (Html left) =
    Prints sink before html.page after left.page
    (printed (tokens_of (page_source_of html.source) html.half (turns same html.path [])
    ++ (characters (half_text (half_of html.half (turns same html.path []))) ++ back_tokens)))
Ends sink before (Html html) after (Markdown left) = ⊥
Ends sink before (Markdown markdown) after (Html left) = ⊥
Ends sink before (Markdown markdown) after (Markdown left) =
    PutsTokens sink before markdown.pen after left.pen (closing_tokens (state_in markdown) markdown.path)
