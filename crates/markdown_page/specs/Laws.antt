-- What the definitions imply.
use Rattle.std.specs.Prelude.{◌≡◌, ℕ, List, ⊤}
use Rattle.std.specs.List.{All}
use Rattle.doc_model.specs.declared.document.Document.{Document}
use Rattle.field_links.specs.Laws.{IsSchemeUrl}
use Rattle.markdown_text.specs.declared.line.LineState.TheVariants.{Start}
use Rattle.markdown_text.specs.Tokens.{Token, Character, Markup, Tag, Destination}
use Rattle.markdown_text.specs.Reading.{all_as_read, read}
use Rattle.markdown_page.specs.Pages.{page_text, page_tokens}
use Rattle.markdown_page.specs.Shape.{Places}

-- a page is read as what it was printed of: its characters as characters, and no markup but that of its elements
abbrev pub PagesAreReadBack : Type 0
PagesAreReadBack =
    (document : Document) (places : Places) →
    read (page_text document places) ≡ all_as_read Start (page_tokens document places)

-- a destination is a URL of one of five schemes
abbrev pub IsAllowed : Token → Type 0
IsAllowed (Character code) = ⊤
IsAllowed (Markup code) = ⊤
IsAllowed (Tag inner) = ⊤
IsAllowed (Destination url) = IsSchemeUrl url

-- each destination that is read of a page is
abbrev pub LinksAreAllowed : Type 0
LinksAreAllowed = (document : Document) (places : Places) → All IsAllowed (read (page_text document places))
