-- A file that docbin accepts is not refused.
use Rattle.std.proofs.Common.{◌≡◌, ◌≢◌, ◌<◌, inl, inr, refl, ap, subst, ℕ, Bool, List, Some, length, arith}
use Rattle.std.proofs.lemmas.Bool.{cases_eq}
use Rattle.doc_bits.specs.declared.places.Where.TheVariants.{File}
use Rattle.doc_bits.specs.Number.{AreBytes}
use Rattle.doc_outer.specs.Held.{Files, file_at}
use Rattle.doc_model.specs.declared.document.Document.{Document}
use Rattle.doc_read.specs.Holds.{IsAccepted}
use Rattle.run_stages.specs.Outcomes.{Outcome}
use Rattle.run_stages.specs.Stages.{longest_file, BreaksLengthRule}
use Rattle.run_stages.proofs.Public.{Says, settled}
use Rattle.doc_fit.proofs.Public.{accepted_read, breaks_none}
use Rattle.file_mends.specs.declared.mends.FileMend.{FileMend}
use Rattle.docfit_run.specs.Requests.{fit, requested}
use Rattle.docfit_run.specs.Fitted.{FitMends, JudgesRead, IsSaved, JudgesFit}
use Rattle.docfit_run.specs.Endings.{EndsRequest, IsEnding}
use Rattle.docfit_run.specs.Laws.{IsAcceptedStatus}
use Rattle.docfit_run.proofs.OneLemmas.{JudgesBytes, reads_bytes}

-- it is not too long
not_overlong : (file : List ℕ) → IsAccepted file → longest_file < length file → ⊥
not_overlong file accepted long =
    accepted.0.0.0.0 (File, 7143937) (refl, record { here = omega (arith, long); wrong = inr (inr long) })

saved_status : (out : List ℕ) (document : Document) (lines : List (List ℕ)) (mends : FitMends) (outcome : Outcome) →
    IsSaved out document lines mends outcome → IsAcceptedStatus outcome.status
saved_status out document lines mends outcome (inl put) = inl (ap (λ (o : Outcome). o.status) put.ends)
saved_status out document lines mends outcome (inr many) =
    inr (inr (inr (inr (ap (λ (o : Outcome). o.status) many.ends))))

read_unrefused : (plain : Bool) (name out file : List ℕ) (mends : List FileMend) (outcome : Outcome) → AreBytes file →
    IsAccepted file → JudgesRead plain name out file mends outcome → IsAcceptedStatus outcome.status
read_unrefused plain name out file mends outcome bytes accepted (inl refused) =
    absurd (breaks_none file refused.rule refused.place bytes accepted refused.first)
read_unrefused plain name out file mends outcome bytes accepted (inr (holds, fitted)) =
    saved_status out fitted.document _ _ outcome fitted.saved

-- it is read as it is
judged_unrefused : (plain : Bool) (name out file : List ℕ) (outcome : Outcome) → AreBytes file → IsAccepted file →
    JudgesFit plain name out file outcome → IsAcceptedStatus outcome.status
judged_unrefused plain name out file outcome bytes accepted is =
    let one = accepted_read file is.mends is.read accepted is.read_as in
    read_unrefused plain name out file is.mends outcome bytes accepted
    (subst (λ r. JudgesRead plain name out r is.mends outcome) one.read is.judged)

said_unrefused : (plain : Bool) (name out bytes : List ℕ) (outcome : Outcome) → IsAccepted bytes →
    Says name (BreaksLengthRule name) (JudgesBytes plain name out) (Some bytes) outcome →
    IsAcceptedStatus outcome.status
said_unrefused plain name out bytes outcome accepted (inl long) = absurd (not_overlong bytes accepted long.0)
said_unrefused plain name out bytes outcome accepted (inr read) =
    judged_unrefused plain name out bytes outcome read.1.0 accepted read.1.1

fit_unrefused : (plain : Bool) (name out : List ℕ) (files : Files) (bytes : List ℕ) (outcome : Outcome) →
    file_at files name ≡ Some bytes → IsAccepted bytes → EndsRequest (Some files) (Some (fit plain name out)) outcome →
    IsAcceptedStatus outcome.status
fit_unrefused plain name out files bytes outcome there accepted ends = elim (cases_eq outcome.status 4) [
  | inl fault ↦ inr (inl fault)
  | inr calm ↦
      said_unrefused plain name out bytes outcome accepted
      (subst (λ t. Says name (BreaksLengthRule name) (JudgesBytes plain name out) t outcome) there
      (settled name files (BreaksLengthRule name) (JudgesBytes plain name out) outcome
      (reads_bytes plain name out (Some files) outcome ends) calm))
]

pub unrefused : (words : List (List ℕ)) (plain : Bool) (file out : List ℕ) (files : Files) (bytes : List ℕ)
    (outcome : Outcome) → requested words ≡ Some (fit plain file out) → file_at files file ≡ Some bytes →
    IsAccepted bytes → IsEnding words (Some files) outcome → IsAcceptedStatus outcome.status
unrefused words plain file out files bytes outcome asked there accepted is =
    fit_unrefused plain file out files bytes outcome there accepted (subst (λ r. EndsRequest (Some files) r outcome)
    asked is)
