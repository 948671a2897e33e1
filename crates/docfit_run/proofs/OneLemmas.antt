-- Words and known files have one outcome.
use Rattle.std.proofs.Common.{◌≡◌, ◌≢◌, ◌∙◌, inl, inr, sym, ap, subst, ℕ, Bool, List, Option, Some, None, arith, length}
use Rattle.doc_bits.specs.Number.{AreBytes}
use Rattle.doc_bits.specs.Rules.{Hold}
use Rattle.doc_bits.specs.Places.{Upto}
use Rattle.doc_bits.proofs.Public.{hold_or_first}
use Rattle.doc_outer.specs.Held.{Files}
use Rattle.doc_model.specs.declared.document.Document.{Document}
use Rattle.file_rules.specs.FileRules.{FileText}
use Rattle.loss_report.specs.Features.{Inventory}
use Rattle.full_save.specs.Layout.{full_save_image}
use Rattle.run_stages.specs.Outcomes.{Outcome, puts}
use Rattle.run_stages.specs.Stages.{BreaksLengthRule, ReadsNamedFile}
use Rattle.run_stages.proofs.Public.{reads_one}
use Rattle.further_notes.specs.declared.stories.NotedStories.{NotedStories}
use Rattle.doc_fit.specs.Rules.{fit_rules}
use Rattle.doc_fit.specs.Noted.{IsFitDocument, AreLinesWith}
use Rattle.doc_mends.specs.declared.mends.Mend.{Mend}
use Rattle.doc_fit.proofs.Public.{fit_single, refused_one, inventory_one, text_same, AreOneRead, read_one, read_bytes}
use Rattle.doc_fit.proofs.Public.{document_one, are_noted_one, lines_with_one}
use Rattle.file_mends.specs.declared.mends.FileMend.{FileMend}
use Rattle.docfit_run.specs.Requests.{Request, help, version, fit, requested}
use Rattle.docfit_run.specs.Fitted.{FitMends, IsFitSaved, IsSaved, IsReadFitted, JudgesRead, JudgesFit, FitsFile}
use Rattle.docfit_run.specs.Fitted.{fit_report}
use Rattle.docfit_run.specs.Endings.{EndsRequest}
use Rattle.docfit_run.specs.Laws.{FitIsOne}

put_status : (out : List ℕ) (document : Document) (lines : List (List ℕ)) (mends : FitMends) (outcome : Outcome) →
    IsFitSaved out document lines mends outcome → outcome.status ≡ 0
put_status out document lines mends outcome put = ap (λ (o : Outcome). o.status) put.ends

saved_one : (out : List ℕ) (document : Document) (lines others : List (List ℕ)) (mends : FitMends) (a b : Outcome) →
    (a.status ≡ 0 → b.status ≡ 0 → lines ≡ others) → IsSaved out document lines mends a →
    IsSaved out document others mends b → a ≡ b
saved_one out document lines others mends a b same (inl x) (inl y) =
    let lines_same : lines ≡ others =
    same (put_status out document lines mends a x) (put_status out document others mends b y) in
    x.ends
    ∙ (ap (λ (l : List (List ℕ)). puts (fit_report (length (full_save_image document)) l mends) out
    (full_save_image document)) lines_same ∙ sym y.ends)
saved_one out document lines others mends a b same (inl x) (inr y) =
    let fits = x.savable.fits in let over = y.over in absurd (omega (arith, fits, over))
saved_one out document lines others mends a b same (inr x) (inl y) =
    let fits = y.savable.fits in let over = x.over in absurd (omega (arith, fits, over))
saved_one out document lines others mends a b same (inr x) (inr y) = x.ends ∙ sym y.ends

-- the mends of the bytes, and these of the document
abbrev with_file : List FileMend → List Mend → FitMends
with_file file_mends mends = record { of_file = file_mends; of_document = mends }

fitted_one : (plain : Bool) (out file : List ℕ) (file_mends : List FileMend) (a b : Outcome) → AreBytes file →
    Hold (fit_rules file) → IsReadFitted plain out file file_mends a → IsReadFitted plain out file file_mends b → a ≡ b
fitted_one plain out file file_mends a b bytes hold x y =
    let noted : x.noted ≡ y.noted =
    are_noted_one plain x.noted y.noted file x.are_noted y.are_noted in
    let one : (x.document ≡ y.document) × (x.mends ≡ y.mends) =
    document_one y.noted file x.document y.document x.mends y.mends bytes hold.0
    (subst (λ (n : Option NotedStories). IsFitDocument n file x.document x.mends) noted x.document_is) y.document_is in
    let inventory : x.inventory ≡ y.inventory = inventory_one file x.inventory y.inventory x.has y.has in
    let text : x.has.text ≡ y.has.text = text_same file x.inventory y.inventory x.has y.has in
    saved_one out y.document x.lines y.lines (with_file file_mends y.mends) a b
    (λ first other. lines_with_one y.noted y.has.text y.inventory x.lines y.lines
    (subst (λ (n : Option NotedStories). AreLinesWith n y.has.text y.inventory x.lines) noted
    (subst (λ (t : FileText). AreLinesWith x.noted t y.inventory x.lines) text
    (subst (λ (i : Inventory). AreLinesWith x.noted x.has.text i x.lines) inventory (x.lines_are first))))
    (y.lines_are other))
    (subst (λ (m : List Mend). IsSaved out y.document x.lines (with_file file_mends m) a) one.1
    (subst (λ (d : Document). IsSaved out d x.lines (with_file file_mends x.mends) a) one.0 x.saved)) y.saved

read_judged_one : (plain : Bool) (name out read : List ℕ) (mends : List FileMend) (a b : Outcome) → AreBytes read →
    JudgesRead plain name out read mends a → JudgesRead plain name out read mends b → a ≡ b
read_judged_one plain name out read mends a b bytes (inl x) (inl y) = refused_one read name a b bytes x y
read_judged_one plain name out read mends a b bytes (inl x) (inr y) =
    absurd (hold_or_first Upto (fit_rules read) x.rule x.place (fit_single read bytes) y.0 x.first)
read_judged_one plain name out read mends a b bytes (inr x) (inl y) =
    absurd (hold_or_first Upto (fit_rules read) y.rule y.place (fit_single read bytes) x.0 y.first)
read_judged_one plain name out read mends a b bytes (inr x) (inr y) =
    fitted_one plain out read mends a b bytes x.0 x.1 y.1

judged_one : (plain : Bool) (name out file : List ℕ) (a b : Outcome) → AreBytes file →
    JudgesFit plain name out file a → JudgesFit plain name out file b → a ≡ b
judged_one plain name out file a b bytes x y =
    let one : AreOneRead x.mends y.mends x.read y.read =
    read_one file x.mends y.mends x.read y.read bytes x.read_as y.read_as in
    read_judged_one plain name out y.read y.mends a b (read_bytes file y.mends y.read bytes y.read_as)
    (subst (λ m. JudgesRead plain name out y.read m a) one.mends_same
    (subst (λ r. JudgesRead plain name out r x.mends a) one.read x.judged)) y.judged

-- ---- runs

-- what is checked is a file of bytes
abbrev pub JudgesBytes : Bool → (name out file : List ℕ) → Outcome → Type 0
JudgesBytes plain name out file outcome = AreBytes file × JudgesFit plain name out file outcome

pub reads_bytes : (plain : Bool) (name out : List ℕ) (held : Option Files) (outcome : Outcome) →
    FitsFile plain name out held outcome → ReadsNamedFile name held (BreaksLengthRule name) (JudgesBytes plain name out)
    outcome
reads_bytes plain name out held outcome (inl x) = inl x
reads_bytes plain name out held outcome (inr (inl x)) = inr (inl x)
reads_bytes plain name out held outcome (inr (inr (inl x))) = inr (inr (inl x))
reads_bytes plain name out held outcome (inr (inr (inr x))) =
    inr (inr (inr (record {
      bytes = x.bytes;
      told = x.told;
      are = x.are;
      short = x.short;
      goes_on = (x.are, x.goes_on);
    })))

ends_one : (files : Files) (request : Option Request) (a b : Outcome) → EndsRequest (Some files) request a →
    EndsRequest (Some files) request b → a.status ≢ 4 → b.status ≢ 4 → a ≡ b
ends_one files None a b x y ca cb = x ∙ sym y
ends_one files (Some help) a b x y ca cb = x ∙ sym y
ends_one files (Some version) a b x y ca cb = x ∙ sym y
ends_one files (Some (fit plain name out)) a b x y ca cb =
    reads_one (a ≡ b) name files (BreaksLengthRule name) (JudgesBytes plain name out) a b ca cb (λ e. e)
    (λ s t. s ∙ sym t) (λ bytes there s t. judged_one plain name out bytes a b s.0 s.1 t.1)
    (reads_bytes plain name out (Some files) a x) (reads_bytes plain name out (Some files) b y)

pub fit_is_one : FitIsOne
fit_is_one words files a b x y ca cb = ends_one files (requested words) a b x y ca cb
