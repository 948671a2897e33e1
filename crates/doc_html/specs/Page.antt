-- The page of a document in a form: in HTML or in Markdown.
use Rattle.std.specs.Prelude.{◌≡◌, ℕ, List, [], encode_utf8_all}
use Rattle.std.specs.List.{All}
use Rattle.doc_pictures.specs.Files.{ImageFiles}
use Rattle.html_page.specs.Sources.{PageSource}
use Rattle.list_numbers.specs.declared.paragraph_values.ParagraphValues.{ParagraphValues}
use Rattle.list_numbers.specs.ParagraphValues.{AreParagraphValuesOf}
use Rattle.doc_view.specs.declared.view.Options.{Options}
use Rattle.doc_view.specs.Page.{AreFormats}
use Rattle.doc_view.specs.Seen.{Formats}
use Rattle.html_text.specs.Reading.{read}
use Rattle.html_page.specs.Known.{IsKnownToken}
use Rattle.html_page.specs.Brackets.{AreBrackets}
use Rattle.form_page.specs.declared.page.PageForm.{PageForm}
use Rattle.form_page.specs.declared.page.PageForm.TheVariants as form
use Rattle.form_page.specs.Forms.{form_text}
use Rattle.doc_places.specs.Places.{document_places}
use Rattle.doc_html.specs.Head.{page_head}

-- the bytes are the page
pub record IsFormPage (form : PageForm) (options : Options) (source : PageSource) (bytes : List ℕ) : Type 0 where
  pub formats : Formats
  pub are : AreFormats source.document.sheet formats
  pub values : List ParagraphValues
  pub are_values : AreParagraphValuesOf source.document values
  pub text :
      bytes ≡ encode_utf8_all (form_text form source (page_head formats options source.document)
      (document_places formats values options source.document))

-- the bytes are the page in HTML
abbrev pub IsHtmlPage : Options → PageSource → List ℕ → Type 0
IsHtmlPage options source bytes = IsFormPage form.Html options source bytes

-- what is read of the page is characters, and tags of a closed list, in which links lead to allowed URLs alone and images
-- are files of these pictures; they nest
pub record IsSafe (images : ImageFiles) (page : List ℕ) : Type 0 where
  pub known : All (IsKnownToken images) (read page)
  pub nests : AreBrackets [] (read page) []
