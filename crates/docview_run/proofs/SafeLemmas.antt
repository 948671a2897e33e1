-- Each page that a run prints is safe.
use Rattle.std.proofs.Common.{◌≡◌, ◌∙◌, inl, inr, sym, ap, subst, ℕ, List, [], ◌≤◌, Option, None, Some, arith}
use Rattle.std.specs.Prelude.{if◌then◌else◌, ◌==◌}
use Rattle.std.proofs.lemmas.Option.{none-some, same_Some}
use Rattle.doc_outer.specs.Held.{Files}
use Rattle.doc_outer.specs.Written.{Appends}
use Rattle.doc_outer.specs.declared.sink.Sink.{Ghosts}
use Rattle.doc_model.specs.declared.document.Document.{Document}
use Rattle.run_stages.specs.Outcomes.{Outcome, says}
use Rattle.doc_bits.specs.Places.{Place}
use Rattle.doc_fit.specs.Refusals.{EndsAt}
use Rattle.doc_pictures.specs.Files.{ImageFiles}
use Rattle.html_page.specs.Sources.{PageSource}
use Rattle.doc_view.specs.declared.view.Options.{Options}
use Rattle.doc_view.proofs.Public.{page_plain}
use Rattle.doc_html.proofs.Public.{html_pages_read}
use Rattle.doc_markdown.proofs.Public.{pages_read}
use Rattle.docview_run.specs.declared.view.Form.{Form}
use Rattle.docview_run.specs.declared.view.Form.TheVariants.{Text, Html, Markdown}
use Rattle.docview_run.specs.declared.view.View.{View}
use Rattle.docview_run.specs.Requests.{Request, help, version, page, pictured, properties, requested}
use Rattle.docview_run.specs.Requests.{shown_folder, shown_view}
use Rattle.docview_run.specs.Viewed.{IsNotViewed}
use Rattle.docview_run.specs.Endings.{IsEnding, IsPageInForm, RunEnds, Shows, ShowsFile, ShowsName, standard_output}
use Rattle.docview_run.specs.Pictured.{NamesFiles}
use Rattle.docview_run.specs.Safe.{AreFilesIn, IsSafeIn, IsSafePage, PrintedPagesAreSafe}

safe_in : (form : Form) (options : Options) (source : PageSource) (bytes : List ℕ) →
    IsPageInForm form options source bytes → IsSafeIn form options source bytes
safe_in Text options source bytes is =
    let plain = page_plain options source.document bytes is in
    record { text = plain.0; bytes_are = plain.1.0; plain = plain.1.1 }
safe_in Html options source bytes is = html_pages_read options source bytes is
safe_in Markdown options source bytes is = pages_read options source.document bytes is

-- the files that a page names are in the folder
files_in : (folder : Option (List ℕ)) (file : List ℕ) (document : Document) (images : ImageFiles) →
    NamesFiles folder file document images → AreFilesIn folder images
files_in None file document images names = names
files_in (Some folder) file document images names = names.0

status_of : Outcome → ℕ
status_of outcome = outcome.status

-- an outcome of another status
other_status : (outcome : Outcome) (status : ℕ) (text : List ℕ) → outcome ≡ says status text → 1 ≤ status →
    outcome.status ≡ 0 → ⊥
unfolding status_of
other_status outcome status text is some done =
    let same : outcome.status ≡ status = ap status_of is in absurd (omega (arith, same, some, done))

refused_status : (file name : List ℕ) (rule : ℕ) (place : Place) (outcome : Outcome) →
    EndsAt file name rule place outcome → outcome.status ≡ 0 → ⊥
refused_status file name rule place outcome (inl other) done =
    other_status outcome 15 _ other.1.ends (omega arith) done
refused_status file name rule place outcome (inr (inl encrypted)) done =
    other_status outcome 16 _ encrypted.1 (omega arith) done
refused_status file name rule place outcome (inr (inr broken)) done =
    other_status outcome 1 _ broken.1 (omega arith) done

pub not_viewed : (view : View) (name file : List ℕ) (outcome : Outcome) → IsNotViewed view.strict file name outcome →
    outcome.status ≡ 0 → ⊥
not_viewed view name file outcome (inl (is, x)) done = other_status outcome 1 _ x.ends (omega arith) done
not_viewed view name file outcome (inr (is, x)) done =
    let refused = x.ends in refused_status x.read name refused.rule refused.place outcome refused.ends done

file_safe : (view : View) (folder : Option (List ℕ)) (name file : List ℕ) (outcome : Outcome) →
    ShowsFile view folder name file outcome → outcome.status ≡ 0 → IsSafePage view folder outcome.text
file_safe view folder name file outcome (inl not) done = absurd (not_viewed view name file outcome not done)
file_safe view folder name file outcome (inr shown) done =
    let page = shown.shows in
    let source : PageSource = record { document = shown.document; images = page.images } in
    record {
      source = source;
      files = files_in folder shown.read shown.document page.images page.names;
      safe =
          subst (λ (bytes : List ℕ). IsSafeIn view.form view.options source bytes)
          (sym (ap (λ (o : Outcome). o.text) page.ends)) (safe_in view.form view.options source page.bytes page.are);
    }

name_safe : (view : View) (folder : Option (List ℕ)) (name : List ℕ) (held : Option Files) (outcome : Outcome) →
    ShowsName view folder name held outcome → outcome.status ≡ 0 → IsSafePage view folder outcome.text
name_safe view folder name held outcome (inl missing) done =
    absurd (other_status outcome 3 _ missing.ends (omega arith) done)
name_safe view folder name held outcome (inr (inl fault)) done =
    absurd (other_status outcome 4 _ fault (omega arith) done)
name_safe view folder name held outcome (inr (inr (inl long))) done =
    absurd (other_status outcome 1 _ long.ends (omega arith) done)
name_safe view folder name held outcome (inr (inr (inr read))) done =
    file_safe view folder name read.bytes outcome read.goes_on done

request_safe : (held : Option Files) (request : Option Request) (view : View) (outcome : Outcome) →
    shown_view request ≡ Some view → Shows held request outcome → outcome.status ≡ 0 →
    IsSafePage view (shown_folder request) outcome.text
request_safe held None view outcome none ends done = absurd (none-some view none)
request_safe held (Some help) view outcome none ends done = absurd (none-some view none)
request_safe held (Some version) view outcome none ends done = absurd (none-some view none)
request_safe held (Some (page other name)) view outcome is ends done =
    subst (λ (v : View). IsSafePage v None outcome.text) (same_Some other view is)
    (name_safe other None name held outcome ends done)
request_safe held (Some (pictured other folder force name)) view outcome is (inl ends) done =
    subst (λ (v : View). IsSafePage v (Some folder) outcome.text) (same_Some other view is)
    (name_safe other (Some folder) name held outcome ends done)
request_safe held (Some (pictured other folder force name)) view outcome is (inr kept) done =
    absurd (other_status outcome 8 [] kept.ends (omega arith) done)
request_safe held (Some (properties form name)) view outcome none ends done = absurd (none-some view none)

pub printed_safe : PrintedPagesAreSafe
printed_safe words held view outcome asked ends done =
    request_safe held (requested words) view outcome asked ends done

-- what was printed at status 0 is the text
all_printed : (outcome : Outcome) → outcome.status ≡ 0 → standard_output outcome ≡ outcome.text
all_printed outcome done =
    let none : List ℕ = [] in ap (λ (n : ℕ). if n == 0 then outcome.text else none) done

-- so a run that ended with its page has printed a safe one
pub run_safe : {K : Type 0} (sink : Ghosts K) (a b : K) (words : List (List ℕ)) (held : Option Files) (status : ℕ) →
    RunEnds (IsEnding words held) sink a b status → status ≡ 0 → (view : View) →
    shown_view (requested words) ≡ Some view →
    (bytes : List ℕ) × (IsSafePage view (shown_folder (requested words)) bytes × Appends (sink.written a) (sink.written b) bytes)
run_safe sink a b words held status ends done view asked =
    let end = ends.ending (λ five. absurd (omega (arith, done, five))) (λ six. absurd (omega (arith, done, six))) in
    let outcome = end.0 in
    let zero_is : outcome.status ≡ 0 = end.1.0 ∙ done in (
      outcome.text,
      (
        printed_safe words held view outcome asked end.1.1.0 zero_is,
        subst (λ (text : List ℕ). Appends (sink.written a) (sink.written b) text) (all_printed outcome zero_is)
            end.1.1.1,
      ),
    )
