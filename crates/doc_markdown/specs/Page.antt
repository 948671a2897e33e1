-- The page of a document in Markdown.
use Rattle.std.specs.Prelude.{ℕ, List}
use Rattle.doc_model.specs.declared.document.Document.{Document}
use Rattle.doc_pictures.specs.Files.{no_image_files}
use Rattle.doc_view.specs.declared.view.Options.{Options}
use Rattle.form_page.specs.declared.page.PageForm.TheVariants.{Markdown}
use Rattle.doc_html.specs.Page.{IsFormPage}

-- the bytes are the page, which names no file of a picture
abbrev pub IsMarkdownPage : Options → Document → List ℕ → Type 0
IsMarkdownPage options document bytes =
    IsFormPage Markdown options (record { document = document; images = no_image_files }) bytes
