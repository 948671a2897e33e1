-- How a run of docview may end.
use Rattle.std.specs.Prelude.{◌≡◌, ◌≢◌, ◌⊎◌, ◌<◌, ℕ, ◌==◌, Bool, List, [], Option, Some, None, if◌then◌else◌}
use Rattle.doc_outer.specs.Counts.{Rose}
use Rattle.doc_outer.specs.Held.{Files}
use Rattle.doc_outer.specs.Written.{Appends, AppendsPrefix}
use Rattle.doc_outer.specs.declared.sink.Sink.{Ghosts}
use Rattle.doc_model.specs.declared.document.Document.{Document}
use Rattle.run_stages.specs.Outcomes.{Outcome, says}
use Rattle.run_stages.specs.Stages.{BreaksLengthRule, IsShelfFault, ReadsNamedFile}
use Rattle.doc_view.specs.declared.view.Options.{Options}
use Rattle.doc_view.specs.Page.{IsPage}
use Rattle.doc_html.specs.Page.{IsHtmlPage}
use Rattle.doc_markdown.specs.Page.{IsMarkdownPage}
use Rattle.docview_run.specs.declared.view.Form.{Form}
use Rattle.docview_run.specs.declared.view.Form.TheVariants.{Text, Html, Markdown}
use Rattle.docview_run.specs.declared.view.View.{View}
use Rattle.docview_run.specs.declared.run.TheConstants.{HELP, VERSION}
use Rattle.docview_run.specs.Requests.{Request, help, version, page, pictured, properties, requested}
use Rattle.docview_run.specs.FileProperties.{ShowsProperties}
use Rattle.doc_pictures.specs.declared.pictures.Picture.{Picture}
use Rattle.doc_pictures.specs.Files.{ImageFiles, no_image_files}
use Rattle.html_page.specs.Sources.{PageSource}
use Rattle.docview_run.specs.Pictured.{IsKeptFile, NamesFiles}
use Rattle.docview_run.specs.Viewed.{IsNotViewed, IsViewed}

-- a document whose page names no file of a picture, or those of pictures in a folder
abbrev pub bare_source : Document → PageSource
bare_source document = record { document = document; images = no_image_files }

abbrev pub pictured_source : Document → (folder : List ℕ) → List Picture → PageSource
pictured_source document folder pictures =
    record { document = document; images = record { folder = folder; pictures = pictures } }

-- the page of a document in a form; in HTML it names the files of its pictures
abbrev pub IsPageInForm : Form → Options → PageSource → List ℕ → Type 0
IsPageInForm Text options source bytes = IsPage options source.document bytes
IsPageInForm Html options source bytes = IsHtmlPage options source bytes
IsPageInForm Markdown options source bytes = IsMarkdownPage options source.document bytes

-- the page of a document is printed
abbrev pub PrintsPage : View → PageSource → Outcome → Type 0
PrintsPage view source outcome =
    (bytes : List ℕ) × (IsPageInForm view.form view.options source bytes × (outcome ≡ says 0 bytes))

-- the page of a document of a file, which names the files of its pictures in a folder, or none
pub record ShowsDocument (view : View) (folder : Option (List ℕ)) (file : List ℕ) (document : Document)
    (outcome : Outcome) : Type 0 where
  pub images : ImageFiles
  pub names : NamesFiles folder file document images
  pub bytes : List ℕ
  pub are : IsPageInForm view.form view.options (record { document = document; images = images }) bytes
  pub ends : outcome ≡ says 0 bytes

-- the page of the document of a file; the files of its pictures are those of what is read in place of it
pub record ShowsPage (view : View) (folder : Option (List ℕ)) (file : List ℕ) (outcome : Outcome) : Type 0 where
  pub read : List ℕ
  pub document : Document
  pub viewed : IsViewed view.strict file read document
  pub shows : ShowsDocument view folder read document outcome

-- a file is shown, or it has no document
abbrev pub ShowsFile : View → Option (List ℕ) → (name file : List ℕ) → Outcome → Type 0
ShowsFile view folder name file outcome = IsNotViewed view.strict file name outcome ⊎ ShowsPage view folder file outcome

-- a name is read whole, and its file shown
abbrev pub ShowsName : View → Option (List ℕ) → (name : List ℕ) → Option Files → Outcome → Type 0
ShowsName view folder name held outcome = ReadsNamedFile name held (BreaksLengthRule name) (ShowsFile view folder name)
    outcome

-- a document is shown behind the files of its pictures in a folder, or one of these is there before, or is not written
abbrev pub ShowsHeld : View → (force : Bool) → (folder file : List ℕ) → Document → Option Files → Outcome → Type 0
ShowsHeld view force folder file document held outcome =
    ShowsDocument view (Some folder) file document outcome ⊎ (IsKeptFile force folder held outcome ⊎ IsShelfFault
    outcome)

-- the same of a file
abbrev pub ShowsTaken : View → (force : Bool) → (folder name : List ℕ) → Option Files → List ℕ → Outcome → Type 0
ShowsTaken view force folder name held file outcome =
    ShowsFile view (Some folder) name file outcome ⊎ (IsKeptFile force folder held outcome ⊎ IsShelfFault outcome)

-- a name is shown behind the files of its pictures in a folder, or one of these is there before
abbrev pub ShowsPictured : View → (force : Bool) → (folder name : List ℕ) → Option Files → Outcome → Type 0
ShowsPictured view force folder name held outcome =
    ShowsName view (Some folder) name held outcome ⊎ IsKeptFile force folder held outcome

-- what a request comes to
abbrev pub Shows : Option Files → Option Request → Outcome → Type 0
Shows held None outcome = outcome ≡ says 2 []
Shows held (Some help) outcome = outcome ≡ says 0 HELP.now
Shows held (Some version) outcome = outcome ≡ says 0 VERSION.now
Shows held (Some (page view file)) outcome = ShowsName view None file held outcome
Shows held (Some (pictured view folder force file)) outcome = ShowsPictured view force folder file held outcome
Shows held (Some (properties form file)) outcome = ShowsProperties file held outcome

-- what a run over these words and this shelf may come to
abbrev pub IsEnding : List (List ℕ) → Option Files → Outcome → Type 0
IsEnding words held outcome = Shows held (requested words) outcome

-- a status of a run that has read its file: none of those for words and for what happens outside before
abbrev pub IsOfFile : ℕ → Type 0
IsOfFile status = (status < 2) ⊎ (4 < status)

-- what goes to the standard output: nothing but the page
abbrev pub standard_output : Outcome → List ℕ
standard_output outcome = if outcome.status == 0 then outcome.text else []

-- a run comes to one of these outcomes by its status, or the sink failed, or memory was refused
pub record RunEnds {K : Type 0} (ends : Outcome → Type 0) (sink : Ghosts K) (before after : K) (status : ℕ) : Type 0 where
  pub ending :
      status ≢ 5 → status ≢ 6 →
      (outcome : Outcome) × ((outcome.status ≡ status) × (ends outcome
      × Appends (sink.written before) (sink.written after) (standard_output outcome)))
  pub prefix :
      status ≡ 5 →
      (outcome : Outcome) × ((outcome.status ≡ 0) × (ends outcome
      × AppendsPrefix (sink.written before) (sink.written after) outcome.text))
  pub rose : status ≡ 5 → Rose (sink.faults before) (sink.faults after)
  pub nothing : status ≡ 6 → sink.written after ≡ sink.written before
