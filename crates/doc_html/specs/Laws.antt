-- What the definitions imply.
use Rattle.std.specs.Prelude.{◌≡◌, ℕ, List, encode_utf8_all}
use Rattle.html_page.specs.Sources.{PageSource}
use Rattle.list_numbers.specs.declared.paragraph_values.ParagraphValues.{ParagraphValues}
use Rattle.list_numbers.specs.ParagraphValues.{AreParagraphValuesOf}
use Rattle.html_text.specs.Reading.{read}
use Rattle.html_page.specs.Pages.{page_tokens}
use Rattle.doc_view.specs.declared.view.Options.{Options}
use Rattle.doc_view.specs.Page.{AreFormats}
use Rattle.doc_view.specs.Seen.{Formats}
use Rattle.doc_places.specs.Places.{document_places}
use Rattle.doc_html.specs.Head.{page_head}
use Rattle.form_page.specs.declared.page.PageForm.{PageForm}
use Rattle.doc_html.specs.Page.{IsFormPage, IsHtmlPage, IsSafe}

-- a document has one page of a form and of these options
abbrev pub FormPagesAreOne : Type 0
FormPagesAreOne =
    (form : PageForm) (options : Options) (source : PageSource) (one other : List ℕ) →
    IsFormPage form options source one → IsFormPage form options source other → one ≡ other

-- a page of a document is the UTF-8 of characters that are read as the tokens of its head and its places, and are safe
pub record IsReadBack (options : Options) (source : PageSource) (bytes : List ℕ) : Type 0 where
  pub formats : Formats
  pub are : AreFormats source.document.sheet formats
  pub values : List ParagraphValues
  pub are_values : AreParagraphValuesOf source.document values
  pub text : List ℕ
  pub bytes_are : bytes ≡ encode_utf8_all text
  pub reads :
      read text ≡ page_tokens source (page_head formats options source.document)
      (document_places formats values options source.document)
  pub safe : IsSafe source.images text

abbrev pub HtmlPagesAreReadBack : Type 0
HtmlPagesAreReadBack =
    (options : Options) (source : PageSource) (bytes : List ℕ) →
    IsHtmlPage options source bytes → IsReadBack options source bytes

-- each page in HTML has the UTF-8 of characters that are safe
abbrev pub HtmlPagesAreSafe : Type 0
HtmlPagesAreSafe =
    (options : Options) (source : PageSource) (bytes : List ℕ) →
    IsHtmlPage options source bytes → (page : List ℕ) × ((bytes ≡ encode_utf8_all page) × IsSafe source.images page)
