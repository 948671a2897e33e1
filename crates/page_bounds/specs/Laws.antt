-- What the definitions imply.
use Rattle.std.specs.Prelude.{ℕ, ◌+◌, ◌*◌, ◌≤◌, List, length}
use Rattle.plain_doc.specs.RulesOfSheet.{item_count}
use Rattle.plain_doc.specs.Sound.{IsSound}
use Rattle.doc_view.specs.declared.view.Options.{Options}
use Rattle.html_page.specs.Lengths.{AreShortImages}
use Rattle.html_page.specs.Sources.{PageSource}
use Rattle.doc_places.specs.Places.{document_places}
use Rattle.doc_html.specs.Page.{IsHtmlPage}
use Rattle.doc_markdown.specs.Page.{IsMarkdownPage}
use Rattle.doc_model.specs.declared.document.Document.{Document}
use Rattle.page_bounds.specs.Addresses.{name_units, opened_addresses, opened_destinations}

-- a page has so many bytes at most for each item, for each bookmark and for each unit of a bookmark's name, and the
-- addresses of its links
abbrev pub HtmlPagesAreShort : Type 0
HtmlPagesAreShort =
    (options : Options) (source : PageSource) (most : ℕ) (bytes : List ℕ) →
    IsSound source.document → AreShortImages source.images most → (page : IsHtmlPage options source bytes) →
    length bytes ≤ (2200 + most) * item_count source.document + (38 * length source.document.bookmarks
    + (36 * name_units source.document
    + (opened_addresses source.document (document_places page.formats page.values options source.document) + 900)))

-- and one in Markdown
abbrev pub MarkdownPagesAreShort : Type 0
MarkdownPagesAreShort =
    (options : Options) (document : Document) (bytes : List ℕ) →
    IsSound document → (page : IsMarkdownPage options document bytes) →
    length bytes ≤ 4900 * item_count document + (29 * length document.bookmarks
    + opened_destinations document (document_places page.formats page.values options document))
