-- Words and known files have one outcome.
use Rattle.std.proofs.Common.{◌≡◌, ◌≢◌, ◌∙◌, inl, inr, sym, ap, subst, ℕ, List, Bool, true, false, true≢false}
use Rattle.std.proofs.Common.{Option, Some, None, refl}
use Rattle.doc_bits.specs.Number.{AreBytes}
use Rattle.doc_bits.specs.Places.{Upto}
use Rattle.doc_bits.proofs.Public.{hold_or_first}
use Rattle.doc_outer.specs.Held.{Files}
use Rattle.doc_model.specs.declared.document.Document.{Document}
use Rattle.doc_read.specs.Holds.{all_rules}
use Rattle.doc_read.proofs.Public.{all_single}
use Rattle.cfb_streams.specs.Contents.{Contents, HasNamed, HasNoNamed, Stream}
use Rattle.cfb_streams.specs.Container.{HasContents}
use Rattle.cfb_streams.proofs.Public.{contents_unique}
use Rattle.file_rules.proofs.Public.{named_one}
use Rattle.doc_pictures.specs.declared.pictures.Picture.{Picture}
use Rattle.doc_pictures.specs.Files.{ImageFiles}
use Rattle.doc_pictures.specs.Places.{picture_places}
use Rattle.doc_pictures.specs.Pictures.{ArePictures}
use Rattle.doc_pictures.proofs.Public.{pictures-one}
use Rattle.html_page.specs.Sources.{PageSource}
use Rattle.doc_view.specs.declared.view.Options.{Options}
use Rattle.doc_view.proofs.Public.{pages_one}
use Rattle.doc_html.proofs.Public.{form_pages_one}
use Rattle.form_page.specs.declared.page.PageForm.TheVariants as form
use Rattle.run_stages.specs.Outcomes.{Outcome, says}
use Rattle.run_stages.specs.Stages.{BreaksLengthRule, ReadsNamedFile}
use Rattle.run_stages.proofs.Public.{refused_one, reads_one}
use Rattle.doc_fit.specs.Rules.{fit_rules}
use Rattle.doc_fit.specs.Refusals.{IsFitRefused}
use Rattle.doc_fit.proofs.Public.{fit_single, read_bytes as bytes_of_read, read_one, refused_one as fit_refused_one}
use Rattle.docview_run.specs.declared.view.Form.{Form}
use Rattle.docview_run.specs.declared.view.Form.TheVariants.{Text, Html, Markdown}
use Rattle.docview_run.specs.declared.view.View.{View}
use Rattle.docview_run.specs.Requests.{Request, help, version, page, pictured, properties, requested}
use Rattle.docview_run.specs.Viewed.{IsLiftedOut, IsNotLifted, IsNotViewed, IsViewed}
use Rattle.docview_run.specs.Pictured.{ArePicturesOf, IsDataIn, IsDataOf, KeepsFiles, NamesFiles}
use Rattle.docview_run.specs.Endings.{IsPageInForm, Shows, ShowsDocument, ShowsFile, ShowsName, ShowsPage}
use Rattle.docview_run.specs.Endings.{ShowsPictured}
use Rattle.docview_run.specs.Endings.{bare_source}
use Rattle.docview_run.specs.Laws.{AsksForProperties, ViewIsOne}
use Rattle.docview_run.proofs.ViewLemmas.{viewed_one}
use Rattle.huge_papx.specs.Data.{data_name}

pages_same : (form : Form) (options : Options) (source : PageSource) (one other : List ℕ) →
    IsPageInForm form options source one → IsPageInForm form options source other → one ≡ other
pages_same Text options source one other a b = pages_one options source.document one other a b
pages_same Html options source one other a b = form_pages_one form.Html options source one other a b
pages_same Markdown options source one other a b =
    form_pages_one form.Markdown options (bare_source source.document) one other a b

-- ---- a document has one list of pictures

named_or_not : (streams : List Stream) (name bytes : List ℕ) → HasNamed streams name bytes → HasNoNamed streams name → ⊥
named_or_not streams name bytes x none = none x.index x.stream x.here x.named

data_in_one : (file : List ℕ) (contents : Contents) (a b : List ℕ) → HasContents file contents →
    IsDataIn contents.streams a → IsDataIn contents.streams b → a ≡ b
data_in_one file contents a b has (inl x) (inl y) = named_one file contents data_name a b has x y
data_in_one file contents a b has (inl x) (inr y) = absurd (named_or_not contents.streams data_name a x y.0)
data_in_one file contents a b has (inr x) (inl y) = absurd (named_or_not contents.streams data_name b y x.0)
data_in_one file contents a b has (inr x) (inr y) = x.1 ∙ sym y.1

data_one : (file a b : List ℕ) → IsDataOf file a → IsDataOf file b → a ≡ b
data_one file a b x y =
    let same : y.contents ≡ x.contents = contents_unique file y.contents x.contents y.has x.has in
    data_in_one file x.contents a b x.has x.there
    (subst (λ (contents : Contents). IsDataIn contents.streams b) same y.there)

pictures_same : (file : List ℕ) (document : Document) (a b : List Picture) → ArePicturesOf file document a →
    ArePicturesOf file document b → a ≡ b
pictures_same file document a b x y =
    let same : y.stream ≡ x.stream = data_one file y.stream x.stream y.is x.is in
    pictures-one x.stream (picture_places document) a b x.are
    (subst (λ (stream : List ℕ). ArePictures stream (picture_places document) b) same y.are)

files_same : (a b : ImageFiles) → a.folder ≡ b.folder → a.pictures ≡ b.pictures → a ≡ b
files_same a b folder pictures = λ i. record { folder = folder i; pictures = pictures i }

names_same : (folder : Option (List ℕ)) (file : List ℕ) (document : Document) (a b : ImageFiles) →
    NamesFiles folder file document a → NamesFiles folder file document b → a ≡ b
names_same None file document a b x y = x ∙ sym y
names_same (Some folder) file document a b x y =
    files_same a b (x.0 ∙ sym y.0) (pictures_same file document a.pictures b.pictures x.1 y.1)

-- ---- one page

not_viewed_one : (strict : Bool) (file name : List ℕ) (a b : Outcome) → AreBytes file →
    IsNotViewed strict file name a → IsNotViewed strict file name b → a ≡ b
not_viewed_one strict file name a b bytes (inl (is, x)) (inl (also, y)) =
    refused_one (all_rules file) name a b (all_single file) x y
not_viewed_one strict file name a b bytes (inl (is, x)) (inr (other, y)) = absurd (true≢false (sym is ∙ other))
not_viewed_one strict file name a b bytes (inr (other, x)) (inl (is, y)) = absurd (true≢false (sym is ∙ other))
not_viewed_one strict file name a b bytes (inr (is, x)) (inr (also, y)) =
    let one = read_one file x.mends y.mends x.read y.read bytes x.read_as y.read_as in
    fit_refused_one y.read name a b (bytes_of_read file y.mends y.read bytes y.read_as)
    (subst (λ (r : List ℕ). IsFitRefused r name a) one.read x.ends) y.ends

-- what is read is refused, or lifted
lifted_or_not : (file name read : List ℕ) (outcome : Outcome) (document : Document) → AreBytes file →
    IsNotLifted file name outcome → IsLiftedOut file read document → ⊥
lifted_or_not file name read outcome document bytes x lifted =
    let one = read_one file x.mends lifted.mends x.read read bytes x.read_as lifted.read_as in
    let refused : IsFitRefused read name outcome =
    subst (λ (r : List ℕ). IsFitRefused r name outcome) one.read x.ends in
    let lifts = lifted.lifts in
    hold_or_first Upto (fit_rules read) refused.rule refused.place
    (fit_single read (bytes_of_read file lifted.mends read bytes lifted.read_as)) lifts.rules refused.first

-- a file that is not shown has no document
viewed_or_not : (strict : Bool) (file name read : List ℕ) (outcome : Outcome) (document : Document) → AreBytes file →
    IsNotViewed strict file name outcome → IsViewed strict file read document → ⊥
viewed_or_not strict file name read outcome document bytes (inl (is, x)) (inl held) =
    hold_or_first Upto (all_rules file) x.rule x.place (all_single file) held.accepted x.first
viewed_or_not strict file name read outcome document bytes (inl (is, x)) (inr (other, lifted)) =
    true≢false (sym is ∙ other)
viewed_or_not strict file name read outcome document bytes (inr (is, x)) (inl held) = x.refused held.accepted
viewed_or_not strict file name read outcome document bytes (inr (is, x)) (inr (also, lifted)) =
    lifted_or_not file name read outcome document bytes x lifted

same_document : (view : View) (folder : Option (List ℕ)) (file : List ℕ) (document : Document) (a b : Outcome) →
    ShowsDocument view folder file document a → ShowsDocument view folder file document b → a ≡ b
same_document view folder file document a b x y =
    let images : x.images ≡ y.images = names_same folder file document x.images y.images x.names y.names in
    let page : x.bytes ≡ y.bytes =
    pages_same view.form view.options (record { document = document; images = y.images }) x.bytes y.bytes
    (subst (λ (i : ImageFiles). IsPageInForm view.form view.options (record { document = document; images = i })
    x.bytes)
    images x.are) y.are in
    x.ends ∙ (ap (λ (b : List ℕ). says 0 b) page ∙ sym y.ends)

shown_one : (view : View) (folder : Option (List ℕ)) (file : List ℕ) (a b : Outcome) → AreBytes file →
    ShowsPage view folder file a → ShowsPage view folder file b → a ≡ b
shown_one view folder file a b bytes x y =
    let one : (x.read ≡ y.read) × (x.document ≡ y.document) =
    viewed_one view.strict view.strict file x.read y.read x.document y.document bytes x.viewed y.viewed in
    same_document view folder y.read y.document a b
    (subst (λ (r : List ℕ). ShowsDocument view folder r y.document a) one.0
    (subst (λ (d : Document). ShowsDocument view folder x.read d a) one.1 x.shows)) y.shows

file_one : (view : View) (folder : Option (List ℕ)) (name file : List ℕ) (a b : Outcome) → AreBytes file →
    ShowsFile view folder name file a → ShowsFile view folder name file b → a ≡ b
file_one view folder name file a b bytes (inl x) (inl y) = not_viewed_one view.strict file name a b bytes x y
file_one view folder name file a b bytes (inl x) (inr y) =
    absurd (viewed_or_not view.strict file name y.read a y.document bytes x y.viewed)
file_one view folder name file a b bytes (inr x) (inl y) =
    absurd (viewed_or_not view.strict file name x.read b x.document bytes y x.viewed)
file_one view folder name file a b bytes (inr x) (inr y) = shown_one view folder file a b bytes x y

-- what is shown is a file of bytes
abbrev pub ShowsBytes : View → Option (List ℕ) → (name file : List ℕ) → Outcome → Type 0
ShowsBytes view folder name file outcome = AreBytes file × ShowsFile view folder name file outcome

pub read_bytes : (view : View) (folder : Option (List ℕ)) (name : List ℕ) (held : Option Files) (outcome : Outcome) →
    ShowsName view folder name held outcome →
    ReadsNamedFile name held (BreaksLengthRule name) (ShowsBytes view folder name) outcome
read_bytes view folder name held outcome (inl x) = inl x
read_bytes view folder name held outcome (inr (inl x)) = inr (inl x)
read_bytes view folder name held outcome (inr (inr (inl x))) = inr (inr (inl x))
read_bytes view folder name held outcome (inr (inr (inr x))) =
    inr (inr (inr (record {
      bytes = x.bytes;
      told = x.told;
      are = x.are;
      short = x.short;
      goes_on = (x.are, x.goes_on);
    })))

name_one : (view : View) (folder : Option (List ℕ)) (name : List ℕ) (files : Files) (a b : Outcome) →
    ShowsName view folder name (Some files) a → ShowsName view folder name (Some files) b → a.status ≢ 4 →
    b.status ≢ 4 → a ≡ b
name_one view folder name files a b x y ca cb =
    reads_one (a ≡ b) name files (BreaksLengthRule name) (ShowsBytes view folder name) a b ca cb (λ e. e)
    (λ s t. s ∙ sym t) (λ bytes there s t. file_one view folder name bytes a b s.0 s.1 t.1)
    (read_bytes view folder name (Some files) a x) (read_bytes view folder name (Some files) b y)

pictured_one : (view : View) (folder name : List ℕ) (files : Files) (a b : Outcome) →
    ShowsPictured view true folder name (Some files) a → ShowsPictured view true folder name (Some files) b →
    a.status ≢ 4 → b.status ≢ 4 → a ≡ b
pictured_one view folder name files a b (inl x) (inl y) ca cb = name_one view (Some folder) name files a b x y ca cb
pictured_one view folder name files a b (inl x) (inr y) ca cb = absurd (true≢false y.file.keeps)
pictured_one view folder name files a b (inr x) (inl y) ca cb = absurd (true≢false x.file.keeps)
pictured_one view folder name files a b (inr x) (inr y) ca cb = absurd (true≢false x.file.keeps)

ends_one : (files : Files) (request : Option Request) (a b : Outcome) → Shows (Some files) request a →
    Shows (Some files) request b → a.status ≢ 4 → b.status ≢ 4 →
    ¬ (AsksForProperties request) → ¬ (KeepsFiles request) → a ≡ b
ends_one files None a b x y ca cb other kept = x ∙ sym y
ends_one files (Some help) a b x y ca cb other kept = x ∙ sym y
ends_one files (Some version) a b x y ca cb other kept = x ∙ sym y
ends_one files (Some (page view name)) a b x y ca cb other kept = name_one view None name files a b x y ca cb
ends_one files (Some (pictured view folder true name)) a b x y ca cb other kept =
    pictured_one view folder name files a b x y ca cb
ends_one files (Some (pictured view folder false name)) a b x y ca cb other kept =
    absurd (kept (view, (folder, (name, refl))))
ends_one files (Some (properties shape name)) a b x y ca cb other kept = absurd (other (shape, (name, refl)))

pub view_one : ViewIsOne
view_one words files a b x y ca cb other kept = ends_one files (requested words) a b x y ca cb other kept
