-- A file in whose way nothing is is fitted.
use Rattle.std.proofs.Common.{◌≡◌, ◌≢◌, ◌<◌, inl, inr, refl, ap, subst, ℕ, Bool, List, Option, Some, length, arith}
use Rattle.doc_bits.specs.declared.places.Where.TheVariants.{File}
use Rattle.doc_bits.specs.Number.{AreBytes}
use Rattle.doc_bits.specs.Rules.{Hold}
use Rattle.doc_bits.specs.Places.{Upto}
use Rattle.doc_bits.proofs.Public.{hold_or_first}
use Rattle.doc_outer.specs.Held.{Files}
use Rattle.full_save.specs.Layout.{FitsCompoundFile}
use Rattle.doc_model.specs.declared.document.Document.{Document}
use Rattle.doc_mends.specs.declared.mends.Mend.{Mend}
use Rattle.run_stages.specs.Outcomes.{Outcome}
use Rattle.run_stages.specs.Stages.{longest_file, BreaksLengthRule}
use Rattle.run_stages.proofs.Public.{Says, settled}
use Rattle.further_notes.specs.declared.stories.NotedStories.{NotedStories}
use Rattle.doc_fit.specs.Rules.{fit_rules}
use Rattle.doc_fit.specs.Noted.{IsFitDocument}
use Rattle.file_mends.specs.declared.mends.FileMend.{FileMend}
use Rattle.doc_fit.specs.ReadAs.{IsMendedRead}
use Rattle.doc_fit.proofs.Public.{fit_single, AreOneRead, read_one, read_bytes, long_read}
use Rattle.docfit_run.specs.Requests.{fit, requested}
use Rattle.docfit_run.specs.Fitted.{FitMends, JudgesRead, IsSaved, JudgesFit}
use Rattle.docfit_run.specs.Endings.{EndsRequest, IsEnding}
use Rattle.docfit_run.specs.Completeness.{CanFit}
use Rattle.docfit_run.proofs.OneLemmas.{JudgesBytes, reads_bytes}

-- a file that breaks none of the rules, as it is read, is not too long
not_long : (file : List ℕ) (mends : List FileMend) (read : List ℕ) → IsMendedRead file mends read → Hold (fit_rules
    read) →
    longest_file < length file → ⊥
not_long file mends read read_as hold long =
    let same : read ≡ file = long_read file mends read long read_as in
    hold.0.0.0.0 (File, 7143937)
    (refl, record { here = rw same (omega (arith, long)); wrong = inr (inr (rw same long)) })

saved_done : (out : List ℕ) (document : Document) (lines : List (List ℕ)) (mends : FitMends) (outcome : Outcome) →
    FitsCompoundFile document → IsSaved out document lines mends outcome → outcome.status ≡ 0
saved_done out document lines mends outcome fits (inl put) = ap (λ (o : Outcome). o.status) put.ends
saved_done out document lines mends outcome fits (inr many) = let over = many.over in absurd (omega (arith, fits, over))

read_done : (plain : Bool) (name out read : List ℕ) (file_mends : List FileMend) (outcome : Outcome) → AreBytes read →
    Hold (fit_rules read) →
    ((noted : Option NotedStories) (document : Document) (mends : List Mend) → IsFitDocument noted read document mends →
    FitsCompoundFile document) → JudgesRead plain name out read file_mends outcome → outcome.status ≡ 0
read_done plain name out read file_mends outcome bytes hold fits (inl refused) =
    absurd (hold_or_first Upto (fit_rules read) refused.rule refused.place (fit_single read bytes) hold refused.first)
read_done plain name out read file_mends outcome bytes hold fits (inr (holds, fitted)) =
    saved_done out fitted.document _ _ outcome
    (fits fitted.noted fitted.document fitted.mends fitted.document_is) fitted.saved

judged_done : (plain : Bool) (name out : List ℕ) (files : Files) (outcome : Outcome) → (can : CanFit files name) →
    AreBytes can.bytes → JudgesFit plain name out can.bytes outcome → outcome.status ≡ 0
judged_done plain name out files outcome can bytes is =
    let one : AreOneRead is.mends can.mends is.read can.read =
    read_one can.bytes is.mends can.mends is.read can.read bytes is.read_as can.read_as in
    read_done plain name out can.read is.mends outcome (read_bytes can.bytes can.mends can.read bytes can.read_as)
    can.hold can.fits (subst (λ r. JudgesRead plain name out r is.mends outcome) one.read is.judged)

said_done : (plain : Bool) (name out : List ℕ) (files : Files) (outcome : Outcome) → (can : CanFit files name) →
    Says name (BreaksLengthRule name) (JudgesBytes plain name out) (Some can.bytes) outcome → outcome.status ≡ 0
said_done plain name out files outcome can (inl long) =
    absurd (not_long can.bytes can.mends can.read can.read_as can.hold long.0)
said_done plain name out files outcome can (inr read) =
    judged_done plain name out files outcome can read.1.0 read.1.1

fit_done : (plain : Bool) (name out : List ℕ) (files : Files) (outcome : Outcome) → CanFit files name →
    EndsRequest (Some files) (Some (fit plain name out)) outcome → outcome.status ≢ 4 → outcome.status ≡ 0
fit_done plain name out files outcome can ends calm =
    said_done plain name out files outcome can
    (subst (λ t. Says name (BreaksLengthRule name) (JudgesBytes plain name out) t outcome) can.there
    (settled name files (BreaksLengthRule name) (JudgesBytes plain name out) outcome
    (reads_bytes plain name out (Some files) outcome ends) calm))

pub complete : (words : List (List ℕ)) (plain : Bool) (file out : List ℕ) (files : Files) (outcome : Outcome) →
    requested words ≡ Some (fit plain file out) → CanFit files file → IsEnding words (Some files) outcome →
    outcome.status ≢ 4 → outcome.status ≡ 0
complete words plain file out files outcome asked can is calm =
    fit_done plain file out files outcome can (subst (λ r. EndsRequest (Some files) r outcome) asked is) calm
