-- A file that has a document is shown.
use Rattle.std.proofs.Common.{◌≡◌, ◌≢◌, ◌<◌, ◌⊎◌, ◌∙◌, inl, inr, refl, sym, ap, subst, ℕ, List, Bool, false}
use Rattle.std.proofs.Common.{Option, None, Some, length, arith, true≢false}
use Rattle.doc_bits.specs.declared.places.Where.TheVariants.{File}
use Rattle.doc_bits.specs.Number.{AreBytes}
use Rattle.doc_bits.specs.Places.{Upto}
use Rattle.doc_bits.proofs.Public.{hold_or_first}
use Rattle.doc_outer.specs.Held.{Files}
use Rattle.doc_read.specs.Holds.{IsAccepted, all_rules}
use Rattle.doc_read.proofs.Public.{all_single}
use Rattle.run_stages.specs.Outcomes.{Outcome}
use Rattle.run_stages.specs.Stages.{longest_file, BreaksLengthRule}
use Rattle.run_stages.proofs.Public.{Says, settled}
use Rattle.doc_fit.specs.Rules.{fit_rules}
use Rattle.doc_fit.specs.Refusals.{IsFitRefused}
use Rattle.doc_fit.proofs.Public.{fit_single, long_read, read_bytes as bytes_of_read, read_one}
use Rattle.docview_run.specs.declared.view.View.{View}
use Rattle.docview_run.specs.Requests.{Request, page, requested}
use Rattle.docview_run.specs.Viewed.{IsNotLifted, IsNotViewed}
use Rattle.docview_run.specs.Endings.{Shows, ShowsFile}
use Rattle.docview_run.specs.Laws.{CanLift, CanView, FilesAreShown}
use Rattle.docview_run.proofs.OneLemmas.{ShowsBytes, read_bytes}

-- a file has a document in a view
abbrev IsValid : Bool → List ℕ → Type 0
IsValid strict file = IsAccepted file ⊎ ((strict ≡ false) × CanLift file)

-- such a file is not too long
not_long : (strict : Bool) (file : List ℕ) → IsValid strict file → longest_file < length file → ⊥
not_long strict file (inl hold) long =
    hold.0.0.0.0 (File, 7143937) (refl, record { here = omega (arith, long); wrong = inr (inr long) })
not_long strict file (inr (is, can)) long =
    let same : can.read ≡ file = long_read file can.mends can.read long can.read_as in
    can.hold.0.0.0.0 (File, 7143937)
    (refl, record { here = rw same (omega (arith, long)); wrong = inr (inr (rw same long)) })

-- what is read breaks none of the rules that are left
not_broken : (file name : List ℕ) (outcome : Outcome) → AreBytes file → CanLift file → IsNotLifted file name outcome →
    ⊥
not_broken file name outcome bytes can is =
    let one = read_one file is.mends can.mends is.read can.read bytes is.read_as can.read_as in
    let refused : IsFitRefused can.read name outcome =
    subst (λ (r : List ℕ). IsFitRefused r name outcome) one.read is.ends in
    hold_or_first Upto (fit_rules can.read) refused.rule refused.place
    (fit_single can.read (bytes_of_read file can.mends can.read bytes can.read_as)) can.hold refused.first

-- and has no reason to be refused
not_refused : (strict : Bool) (file name : List ℕ) (outcome : Outcome) → AreBytes file → IsValid strict file →
    IsNotViewed strict file name outcome → ⊥
not_refused strict file name outcome bytes (inl hold) (inl (is, x)) =
    hold_or_first Upto (all_rules file) x.rule x.place (all_single file) hold x.first
not_refused strict file name outcome bytes (inl hold) (inr (is, x)) = x.refused hold
not_refused strict file name outcome bytes (inr (other, can)) (inl (is, x)) = true≢false (sym is ∙ other)
not_refused strict file name outcome bytes (inr (other, can)) (inr (is, x)) = not_broken file name outcome bytes can x

shown_done : (view : View) (name file : List ℕ) (outcome : Outcome) → AreBytes file → IsValid view.strict file →
    ShowsFile view None name file outcome → outcome.status ≡ 0
shown_done view name file outcome bytes right (inl not) =
    absurd (not_refused view.strict file name outcome bytes right not)
shown_done view name file outcome bytes right (inr shown) = ap (λ (o : Outcome). o.status) shown.shows.ends

said_done : (view : View) (name : List ℕ) (files : Files) (outcome : Outcome) → (can : CanView view.strict files name) →
    Says name (BreaksLengthRule name) (ShowsBytes view None name) (Some can.bytes) outcome → outcome.status ≡ 0
said_done view name files outcome can (inl long) = absurd (not_long view.strict can.bytes can.right long.0)
said_done view name files outcome can (inr read) =
    shown_done view name can.bytes outcome read.1.0 can.right read.1.1

view_done : (view : View) (name : List ℕ) (files : Files) (outcome : Outcome) → CanView view.strict files name →
    Shows (Some files) (Some (page view name)) outcome → outcome.status ≢ 4 → outcome.status ≡ 0
view_done view name files outcome can ends calm =
    said_done view name files outcome can
    (subst (λ t. Says name (BreaksLengthRule name) (ShowsBytes view None name) t outcome) can.there
    (settled name files (BreaksLengthRule name) (ShowsBytes view None name) outcome
    (read_bytes view None name (Some files) outcome ends) calm))

pub files_shown : FilesAreShown
files_shown words view name files outcome asked can is calm =
    view_done view name files outcome can
    (subst (λ (r : Option Request). Shows (Some files) r outcome) asked is) calm
