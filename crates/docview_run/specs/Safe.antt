-- What no document can change of the page that a run prints.
use Rattle.std.specs.Prelude.{◌≡◌, ℕ, false, List, Option, None, Some, encode_utf8_all}
use Rattle.std.specs.List.{All}
use Rattle.doc_outer.specs.Held.{Files}
use Rattle.doc_pictures.specs.Files.{ImageFiles, no_image_files}
use Rattle.html_page.specs.Sources.{PageSource}
use Rattle.run_stages.specs.Outcomes.{Outcome}
use Rattle.doc_view.specs.declared.view.Options.{Options}
use Rattle.doc_view.specs.Laws.{is_control_in_page}
use Rattle.doc_html.specs.Laws.{IsReadBack as IsHtmlReadBack}
use Rattle.doc_markdown.specs.Laws.{IsReadBack as IsMarkdownReadBack}
use Rattle.docview_run.specs.declared.view.Form.{Form}
use Rattle.docview_run.specs.declared.view.Form.TheVariants.{Text, Html, Markdown}
use Rattle.docview_run.specs.declared.view.View.{View}
use Rattle.docview_run.specs.Requests.{requested, shown_folder, shown_view}
use Rattle.docview_run.specs.Endings.{IsEnding}

-- the bytes are characters of which none is a control
pub record IsPlainText (bytes : List ℕ) : Type 0 where
  pub text : List ℕ
  pub bytes_are : bytes ≡ encode_utf8_all text
  pub plain : All (λ code. is_control_in_page code ≡ false) text

-- of text no control; of HTML and Markdown what the stated readers read: the tokens that the page was printed of, and of
-- HTML tags of a closed list, in which links lead to allowed URLs alone and images are files of pictures, and which nest
abbrev pub IsSafeIn : Form → Options → PageSource → List ℕ → Type 0
IsSafeIn Text options source bytes = IsPlainText bytes
IsSafeIn Html options source bytes = IsHtmlReadBack options source bytes
IsSafeIn Markdown options source bytes = IsMarkdownReadBack options source.document bytes

-- files of pictures are in a folder, or there is none
abbrev pub AreFilesIn : Option (List ℕ) → ImageFiles → Type 0
AreFilesIn None images = images ≡ no_image_files
AreFilesIn (Some folder) images = images.folder ≡ folder

pub record IsSafePage (view : View) (folder : Option (List ℕ)) (bytes : List ℕ) : Type 0 where
  pub source : PageSource
  pub files : AreFilesIn folder source.images
  pub safe : IsSafeIn view.form view.options source bytes

-- each page that a run prints is safe
abbrev pub PrintedPagesAreSafe : Type 0
PrintedPagesAreSafe =
    (words : List (List ℕ)) (held : Option Files) (view : View) (outcome : Outcome) →
    shown_view (requested words) ≡ Some view → IsEnding words held outcome → outcome.status ≡ 0 →
    IsSafePage view (shown_folder (requested words)) outcome.text
