-- A file is shown, or it has no document.
use Rattle.std.proofs.Common.{◌≡◌, ◌≢◌, ◌⊎◌, ◌∙◌, ℕ, List, Option, None, Some, true, false, refl, sym, subst, inl, inr}
use Rattle.std.proofs.Common.{Result, Ok, Err, MatchResult, arith}
use Rattle.doc_bits.specs.Number.{AreBytes}
use Rattle.doc_bits.specs.Places.{Place, IsFirstPlace}
use Rattle.doc_outer.specs.declared.sink.Sink.{Ghosts}
use Rattle.doc_model.specs.declared.document.Document.{Document}
use Rattle.file_rules.specs.FileRules.{FileText}
use Rattle.file_rules.specs.Faults.{IsReadFault}
use Rattle.file_rules.specs.declared.fault.ReadFault.{ReadFault}
use Rattle.file_mends.specs.declared.mends.FileMend.{FileMend}
use Rattle.file_mends.specs.Mends.{bytes_read}
use Rattle.doc_read.specs.Holds.{HoldsDocument, IsAccepted, all_rules}
use Rattle.doc_read.proofs.Public.{document_one}
use Rattle.run_stages.specs.Lines.{rule_line}
use Rattle.run_stages.specs.Outcomes.{Outcome, says}
use Rattle.further_notes.specs.declared.stories.NotedStories.{NotedStories}
use Rattle.doc_fit.specs.declared.opening.OpenedAny.{OpenedAny}
use Rattle.doc_fit.specs.declared.file_opening.OpenedFile.{OpenedFile}
use Rattle.doc_fit.specs.Rules.{fit_rules}
use Rattle.doc_fit.specs.Refusals.{IsRefusalStatus}
use Rattle.doc_fit.specs.Noted.{IsFitDocument, IsNotedText, IsOpenedFit, IsOpenedWith}
use Rattle.doc_fit.specs.ReadAs.{IsOpenedFile, IsMendedRead}
use Rattle.doc_fit.proofs.Public.{are_noted_one, document_one as fit_document_one, mended_by, read_bytes, read_one}
use Rattle.doc_fit.proofs.Public.{refused_by, text_meant}
use Rattle.docview_run.specs.declared.view.View.{View}
use Rattle.docview_run.specs.Viewed.{IsFaultStatus, IsLiftedFrom, IsLiftedOut, IsStatusOf, IsViewed}
use Rattle.doc_pictures.specs.Files.{no_image_files}
use Rattle.docview_run.specs.Endings.{IsOfFile, PrintsPage, RunEnds, ShowsFile, bare_source}
use Rattle.docview_run.specs.Laws.{ViewedDocumentIsOne}
use Rattle.docview_run.proofs.EndLemmas.{IsTold, ends_weaker, memory_ends, told_ends}

-- the page of the document of a file is shown
viewed_ends : {K : Type 0} (sink : Ghosts K) (out after : K) (name file read : List ℕ) (view : View)
    (document : Document) (status : ℕ) → IsViewed view.strict file read document →
    RunEnds (PrintsPage view (bare_source document)) sink out after status →
    RunEnds (ShowsFile view None name file) sink out after status
viewed_ends sink out after name file read view document status is =
    ends_weaker (PrintsPage view (bare_source document)) (ShowsFile view None name file) sink out after status
    (λ outcome shown. inr (record {
      read = read;
      document = document;
      viewed = is;
      shows = record { images = no_image_files; names = refl; bytes = shown.0; are = shown.1.0; ends = shown.1.1 };
    }))

-- a document was opened
pub held_ends : {K : Type 0} (sink : Ghosts K) (out after : K) (name file : List ℕ) (view : View)
    (document : Document) (status : ℕ) → IsAccepted file → HoldsDocument file document →
    RunEnds (PrintsPage view (bare_source document)) sink out after status →
    RunEnds (ShowsFile view None name file) sink out after status
held_ends sink out after name file view document status accepted holds =
    viewed_ends sink out after name file file view document status
    (inl (record { accepted = accepted; same = refl; holds = holds }))

-- ---- what is lifted

-- what is opened has its document, with the texts of stories as notes or without
opened_document : (read : List ℕ) (opened : OpenedAny) (noted : Option NotedStories) → IsOpenedWith noted read opened →
    IsFitDocument noted read opened.lifted.document opened.mends.items
opened_document read opened (Some stories) is =
    let by = is.by in
    let lifts = by.lifts in
    record {
      noted = record {
        rules = lifts.rules;
        meant = is.before.document;
        means = lifts.means;
        mends = opened.mends.items;
        noted_is = subst (λ (t : FileText). IsNotedText stories t is.before.document opened.lifted.document opened.mends.items)
            (text_meant read is.before lifts) by.noted_is;
        sound = by.sound;
      };
      mends_are = refl;
    }
opened_document read opened None is =
    let lifts = is.lifts in
    record {
      mended = record {
        meant = is.before.document;
        means = lifts.means;
        mends = opened.mends.items;
        mended_is = mended_by read is.before opened.lifted opened.losses opened.mends.items lifts is.reported;
      };
      mends_are = refl;
    }

-- what was found is opened
pub found_opened : (file : List ℕ) (found : OpenedFile) (opened : OpenedAny) → IsOpenedFile false file found →
    found.opened ≡ Ok opened → IsOpenedFit false (bytes_read file found.mended) opened
found_opened file found opened is same =
    let read = bytes_read file found.mended in
    subst
    (λ (r : Result OpenedAny ReadFault). MatchResult r (IsOpenedFit false read) (IsReadFault (fit_rules read))) same
    is.opened

-- or refused
pub found_refused : (file : List ℕ) (found : OpenedFile) (fault : ReadFault) → IsOpenedFile false file found →
    found.opened ≡ Err fault → IsReadFault (fit_rules (bytes_read file found.mended)) fault
found_refused file found fault is same =
    let read = bytes_read file found.mended in
    subst
    (λ (r : Result OpenedAny ReadFault). MatchResult r (IsOpenedFit false read) (IsReadFault (fit_rules read))) same
    is.opened

-- the document of what was found is that of the file
pub found_lifted : (file : List ℕ) (found : OpenedFile) (opened : OpenedAny) → ¬ (IsAccepted file) →
    IsOpenedFile false file found → found.opened ≡ Ok opened →
    IsLiftedOut file (bytes_read file found.mended) opened.lifted.document
found_lifted file found opened refused is same =
    let read = bytes_read file found.mended in
    let fit = found_opened file found opened is same in
    record {
      refused = refused;
      mends = found.mended.mends;
      read_as = is.read_as;
      lifts = record {
        rules = fit.holds;
        noted = fit.noted;
        are_noted = fit.are;
        mends = opened.mends.items;
        document_is = opened_document read opened fit.noted fit.by;
      };
    }

-- it is shown
pub lifted_ends : {K : Type 0} (sink : Ghosts K) (out after : K) (name file read : List ℕ) (view : View)
    (document : Document) (status : ℕ) → view.strict ≡ false → IsLiftedOut file read document →
    RunEnds (PrintsPage view (bare_source document)) sink out after status →
    RunEnds (ShowsFile view None name file) sink out after status
lifted_ends sink out after name file read view document status lifts is =
    viewed_ends sink out after name file read view document status (inr (lifts, is))

-- ---- what is refused

-- a rule is broken, in a strict view
pub refused_ends : {K : Type 0} (sink : Ghosts K) (out : K) (name file : List ℕ) (view : View) (rule : ℕ)
    (place : Place) → view.strict ≡ true → IsFirstPlace (all_rules file) rule place →
    RunEnds (ShowsFile view None name file) sink out out 1
refused_ends sink out name file view rule place strict first =
    told_ends (ShowsFile view None name file) sink out (says 1 (rule_line name rule place)) 1 refl (inl (inl refl))
    (inl (inl (strict, record { rule = rule; place = place; first = first; ends = refl })))

-- the status of a refusal
told_status : (rule status : ℕ) → IsRefusalStatus rule status → IsTold status
told_status rule status (inl (tells, is)) = inr (inr (inl is))
told_status rule status (inr (inl (encrypted, is))) = inr (inr (inr is))
told_status rule status (inr (inr (other, is))) = inl (inl is)

refusal_after : (rule status : ℕ) → IsRefusalStatus rule status → IsOfFile status
refusal_after rule status (inl (tells, is)) = inr (omega (arith, is))
refusal_after rule status (inr (inl (encrypted, is))) = inr (omega (arith, is))
refusal_after rule status (inr (inr (other, is))) = inl (omega (arith, is))

pub unopened_after : (read : List ℕ) (status : ℕ) → IsFaultStatus read status → IsOfFile status
unopened_after read status (inl refused) = refusal_after refused.rule status refused.is
unopened_after read status (inr memory) = inr (omega (arith, memory))

refusal_some : (rule status : ℕ) → IsRefusalStatus rule status → status ≢ 0
refusal_some rule status (inl (tells, is)) = λ done. absurd (omega (arith, is, done))
refusal_some rule status (inr (inl (encrypted, is))) = λ done. absurd (omega (arith, is, done))
refusal_some rule status (inr (inr (other, is))) = λ done. absurd (omega (arith, is, done))

pub unopened_some : (read : List ℕ) (status : ℕ) → IsFaultStatus read status → status ≢ 0
unopened_some read status (inl refused) = refusal_some refused.rule status refused.is
unopened_some read status (inr memory) = λ done. absurd (omega (arith, memory, done))

-- a rule that is left is broken by what is read, or memory ran out
pub unopened_ends : {K : Type 0} (sink : Ghosts K) (out : K) (folder : Option (List ℕ)) (name file read : List ℕ)
    (mends : List FileMend) (view : View) (status : ℕ) → ¬ (IsAccepted file) → view.strict ≡ false →
    IsMendedRead file mends read → IsFaultStatus read status →
    RunEnds (ShowsFile view folder name file) sink out out status
unopened_ends sink out folder name file read mends view status refused lifts read_as (inl is) =
    let ending = refused_by read name is.rule status is.place is.first is.is in
    told_ends (ShowsFile view folder name file) sink out ending.0 status ending.1.1 (told_status is.rule status is.is)
    (inl (inr (
      lifts,
      record { refused = refused; mends = mends; read = read; read_as = read_as; ends = ending.1.0 },
    )))
unopened_ends sink out folder name file read mends view status refused lifts read_as (inr memory) =
    subst (λ (s : ℕ). RunEnds (ShowsFile view folder name file) sink out out s) (sym memory)
    (memory_ends (ShowsFile view folder name file) sink out)

-- the status of a rule that is broken
pub rule_status : (read : List ℕ) (rule : ℕ) (place : Place) (status : ℕ) →
    IsFirstPlace (fit_rules read) rule place → IsRefusalStatus rule status → IsFaultStatus read status
rule_status read rule place status first is = inl (record { rule = rule; place = place; first = first; is = is })

-- ---- one document

lifted_one : (read : List ℕ) (a b : Document) → AreBytes read → IsLiftedFrom read a → IsLiftedFrom read b → a ≡ b
lifted_one read a b bytes x y =
    let noted : x.noted ≡ y.noted =
    are_noted_one false x.noted y.noted read x.are_noted y.are_noted in
    let one : (a ≡ b) × (x.mends ≡ y.mends) =
    fit_document_one y.noted read a b x.mends y.mends bytes x.rules.0
    (subst (λ (n : Option NotedStories). IsFitDocument n read a x.mends) noted x.document_is) y.document_is in
    one.0

pub viewed_one : ViewedDocumentIsOne
viewed_one strict other file read again a b bytes (inl x) (inl y) =
    (x.same ∙ sym y.same, document_one file a b x.holds y.holds)
viewed_one strict other file read again a b bytes (inl x) (inr (lifts, y)) = absurd (y.refused x.accepted)
viewed_one strict other file read again a b bytes (inr (lifts, x)) (inl y) = absurd (x.refused y.accepted)
viewed_one strict other file read again a b bytes (inr (lifts, x)) (inr (too, y)) =
    let one = read_one file x.mends y.mends read again bytes x.read_as y.read_as in (
      one.read,
      lifted_one again a b (read_bytes file y.mends again bytes y.read_as)
          (subst (λ (r : List ℕ). IsLiftedFrom r a) one.read x.lifts) y.lifts,
    )
