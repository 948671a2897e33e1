-- What the definitions imply.
use Rattle.std.specs.Prelude.{◌≡◌, ℕ, List, encode_utf8_all}
use Rattle.std.specs.List.{All}
use Rattle.doc_model.specs.declared.document.Document.{Document}
use Rattle.list_numbers.specs.declared.paragraph_values.ParagraphValues.{ParagraphValues}
use Rattle.list_numbers.specs.ParagraphValues.{AreParagraphValuesOf}
use Rattle.doc_view.specs.declared.view.Options.{Options}
use Rattle.doc_view.specs.Page.{AreFormats}
use Rattle.doc_view.specs.Seen.{Formats}
use Rattle.doc_places.specs.Places.{document_places}
use Rattle.markdown_text.specs.declared.line.LineState.TheVariants.{Start}
use Rattle.markdown_text.specs.Reading.{all_as_read, read}
use Rattle.markdown_page.specs.Laws.{IsAllowed}
use Rattle.markdown_page.specs.Pages.{page_tokens}
use Rattle.doc_markdown.specs.Page.{IsMarkdownPage}

-- a page of a document is the UTF-8 of characters that are read as the tokens of its places, in which links lead to URLs of
-- five schemes alone
pub record IsReadBack (options : Options) (document : Document) (bytes : List ℕ) : Type 0 where
  pub formats : Formats
  pub are : AreFormats document.sheet formats
  pub values : List ParagraphValues
  pub are_values : AreParagraphValuesOf document values
  pub text : List ℕ
  pub bytes_are : bytes ≡ encode_utf8_all text
  pub reads : read text ≡ all_as_read Start (page_tokens document (document_places formats values options document))
  pub links : All IsAllowed (read text)

abbrev pub MarkdownPagesAreReadBack : Type 0
MarkdownPagesAreReadBack =
    (options : Options) (document : Document) (bytes : List ℕ) →
    IsMarkdownPage options document bytes → IsReadBack options document bytes
