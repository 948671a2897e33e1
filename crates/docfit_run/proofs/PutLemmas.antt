-- What a run puts, and where; and that its status is none of those for what fails later.
use Rattle.std.proofs.Common.{◌≡◌, ◌≢◌, ◌⊎◌, ◌↔◌, ◌∙◌, ◌<◌, inl, inr, refl, sym, ap, subst, ℕ, Bool, List}
use Rattle.std.proofs.Common.{Option, Some, None, arith}
use Rattle.std.proofs.lemmas.Option.{none-some, same_Some}
use Rattle.doc_bits.specs.Places.{Place}
use Rattle.doc_model.specs.declared.document.Document.{Document}
use Rattle.full_save.specs.Layout.{full_save_image}
use Rattle.file_mends.specs.declared.mends.FileMend.{FileMend}
use Rattle.doc_outer.specs.Held.{Files, StaysAt, OthersStay}
use Rattle.run_stages.specs.Lines.{shelf_fault_line}
use Rattle.run_stages.specs.Outcomes.{Outcome, PutFile, says, IsAfterReading}
use Rattle.run_stages.proofs.Public.{said_inside}
use Rattle.doc_fit.specs.Refusals.{EndsAt}
use Rattle.docfit_run.specs.Requests.{Request, help, version, fit, requested, WordsPutUnder}
use Rattle.docfit_run.specs.Fitted.{FitMends, JudgesRead, JudgesFit, FitsFile, IsSaved}
use Rattle.docfit_run.specs.Endings.{EndsRequest, IsEnding}

-- what is put has this name, and then the status is 0; the status is none of usage, a failing sink and want of memory
pub record IsFine (out : List ℕ) (outcome : Outcome) : Type 0 where
  pub puts : (file : PutFile) → outcome.put ≡ Some file → (out ≡ file.name) × (outcome.status ≡ 0)
  pub calm : (outcome.status ≢ 5) × (outcome.status ≢ 6)
  pub asked : outcome.status ≢ 2

abbrev IsQuiet : ℕ → Type 0
IsQuiet status = ((status ≢ 5) × (status ≢ 6)) × (status ≢ 2)

-- what prints alone puts nothing
said_fine : (out : List ℕ) (status : ℕ) (text : List ℕ) (outcome : Outcome) → outcome ≡ says status text →
    IsQuiet status → IsFine out outcome
said_fine out status text outcome e quiet =
    let same : outcome.status ≡ status = ap (λ (o : Outcome). o.status) e in
    let is = subst IsQuiet (sym same) quiet in
    record {
      puts = λ file put. absurd (none-some file (sym (ap (λ (o : Outcome). o.put) e) ∙ put));
      calm = is.0;
      asked = is.1;
    }

quiet : (n : ℕ) → ((n < 2) ⊎ ((2 < n) × (n < 5))) ⊎ (6 < n) → IsQuiet n
quiet n (inl (inl low)) = ((λ e. omega (arith, low, e), λ e. omega (arith, low, e)), λ e. omega (arith, low, e))
quiet n (inl (inr (above, below))) =
    ((λ e. omega (arith, below, e), λ e. omega (arith, below, e)), λ e. omega (arith, above, e))
quiet n (inr high) = ((λ e. omega (arith, high, e), λ e. omega (arith, high, e)), λ e. omega (arith, high, e))

refused_fine : (name out file : List ℕ) (rule : ℕ) (place : Place) (outcome : Outcome) →
    EndsAt file name rule place outcome → IsFine out outcome
refused_fine name out file rule place outcome (inl (is, other)) =
    said_fine out 15 _ outcome other.ends (quiet 15 (inr (omega arith)))
refused_fine name out file rule place outcome (inr (inl (is, ends))) =
    said_fine out 16 _ outcome ends (quiet 16 (inr (omega arith)))
refused_fine name out file rule place outcome (inr (inr (is, ends))) =
    said_fine out 1 _ outcome ends (quiet 1 (inl (inl (omega arith))))

saved_fine : (out : List ℕ) (document : Document) (lines : List (List ℕ)) (mends : FitMends) (outcome : Outcome) →
    IsSaved out document lines mends outcome → IsFine out outcome
saved_fine out document lines mends outcome (inl put) =
    let same : outcome.status ≡ 0 = ap (λ (o : Outcome). o.status) put.ends in
    record {
      puts = λ file here.
          let there = sym (ap (λ (o : Outcome). o.put) put.ends) ∙ here in (
            ap (λ (f : PutFile). f.name)
                (same_Some (record { name = out; bytes = full_save_image document }) file there),
            same,
          );
      calm = (λ e. omega (arith, same, e), λ e. omega (arith, same, e));
      asked = λ e. omega (arith, same, e);
    }
saved_fine out document lines mends outcome (inr many) = said_fine out 9 _ outcome many.ends (quiet 9 (inr (omega arith)))

read_fine : (plain : Bool) (name out read : List ℕ) (mends : List FileMend) (outcome : Outcome) →
    JudgesRead plain name out read mends outcome → IsFine out outcome
read_fine plain name out read mends outcome (inl refused) =
    refused_fine name out read refused.rule refused.place outcome refused.ends
read_fine plain name out read mends outcome (inr (hold, fitted)) =
    saved_fine out fitted.document _ _ outcome fitted.saved

judged_fine : (plain : Bool) (name out file : List ℕ) (outcome : Outcome) → JudgesFit plain name out file outcome →
    IsFine out outcome
judged_fine plain name out file outcome is = read_fine plain name out is.read is.mends outcome is.judged

pub file_fine : (plain : Bool) (name out : List ℕ) (held : Option Files) (outcome : Outcome) →
    FitsFile plain name out held outcome → IsFine out outcome
file_fine plain name out held outcome (inl missing) =
    said_fine out 3 _ outcome missing.ends (quiet 3 (inl (inr (omega arith, omega arith))))
file_fine plain name out held outcome (inr (inl fault)) =
    said_fine out 4 _ outcome fault (quiet 4 (inl (inr (omega arith, omega arith))))
file_fine plain name out held outcome (inr (inr (inl long))) =
    said_fine out 1 _ outcome long.ends (quiet 1 (inl (inl (omega arith))))
file_fine plain name out held outcome (inr (inr (inr read))) =
    judged_fine plain name out read.bytes outcome read.goes_on

-- what comes behind reading
refused_inside : (name file : List ℕ) (rule : ℕ) (place : Place) (outcome : Outcome) →
    EndsAt file name rule place outcome → IsAfterReading outcome.status
refused_inside name file rule place outcome (inl (is, other)) =
    said_inside 15 _ outcome other.ends (inr (omega arith))
refused_inside name file rule place outcome (inr (inl (is, ends))) = said_inside 16 _ outcome ends (inr (omega arith))
refused_inside name file rule place outcome (inr (inr (is, ends))) = said_inside 1 _ outcome ends (inl (omega arith))

saved_inside : (out : List ℕ) (document : Document) (lines : List (List ℕ)) (mends : FitMends) (outcome : Outcome) →
    IsSaved out document lines mends outcome → IsAfterReading outcome.status
saved_inside out document lines mends outcome (inl put) =
    let same : outcome.status ≡ 0 = ap (λ (o : Outcome). o.status) put.ends in
    inl (omega (arith, same))
saved_inside out document lines mends outcome (inr many) = said_inside 9 _ outcome many.ends (inr (omega arith))

read_inside : (plain : Bool) (name out read : List ℕ) (mends : List FileMend) (outcome : Outcome) →
    JudgesRead plain name out read mends outcome → IsAfterReading outcome.status
read_inside plain name out read mends outcome (inl refused) =
    refused_inside name read refused.rule refused.place outcome refused.ends
read_inside plain name out read mends outcome (inr (hold, fitted)) =
    saved_inside out fitted.document _ _ outcome fitted.saved

pub judged_inside : (plain : Bool) (name out file : List ℕ) (outcome : Outcome) →
    JudgesFit plain name out file outcome → IsAfterReading outcome.status
judged_inside plain name out file outcome is = read_inside plain name out is.read is.mends outcome is.judged

-- an ending of a request
said_nothing : (status : ℕ) (text : List ℕ) (outcome : Outcome) (file : PutFile) → outcome ≡ says status text →
    outcome.put ≡ Some file → ⊥
said_nothing status text outcome file e put = none-some file (sym (ap (λ (o : Outcome). o.put) e) ∙ put)

-- what a request puts
record IsPutBy (request : Option Request) (outcome : Outcome) (file : PutFile) : Type 0 where
  plain : Bool
  name : List ℕ
  asked : request ≡ Some (fit plain name file.name)
  done : outcome.status ≡ 0

ends_puts : (held : Option Files) (request : Option Request) (outcome : Outcome) (file : PutFile) →
    EndsRequest held request outcome → outcome.put ≡ Some file → IsPutBy request outcome file
ends_puts held None outcome file e put = absurd (said_nothing 2 _ outcome file e put)
ends_puts held (Some help) outcome file e put = absurd (said_nothing 0 _ outcome file e put)
ends_puts held (Some version) outcome file e put = absurd (said_nothing 0 _ outcome file e put)
ends_puts held (Some (fit plain name out)) outcome file e put =
    let fine = file_fine plain name out held outcome e in
    let is = fine.puts file put in
    record { plain = plain; name = name; asked = ap (λ o. Some (fit plain name o)) is.0; done = is.1 }

ends_calm : (held : Option Files) (request : Option Request) (outcome : Outcome) → EndsRequest held request outcome →
    (outcome.status ≢ 5) × (outcome.status ≢ 6)
ends_calm held None outcome e =
    let same : outcome.status ≡ 2 = ap (λ (o : Outcome). o.status) e in
    (λ s. omega (arith, same, s), λ s. omega (arith, same, s))
ends_calm held (Some help) outcome e =
    let same : outcome.status ≡ 0 = ap (λ (o : Outcome). o.status) e in
    (λ s. omega (arith, same, s), λ s. omega (arith, same, s))
ends_calm held (Some version) outcome e =
    let same : outcome.status ≡ 0 = ap (λ (o : Outcome). o.status) e in
    (λ s. omega (arith, same, s), λ s. omega (arith, same, s))
ends_calm held (Some (fit plain name out)) outcome e =
    let fine = file_fine plain name out held outcome e in fine.calm

-- the status of words that ask for nothing
ends_usage : (held : Option Files) (request : Option Request) (outcome : Outcome) → EndsRequest held request outcome →
    outcome.status ≡ 2 ↔ request ≡ None
ends_usage held None outcome e = ((λ is. refl), λ none. ap (λ (o : Outcome). o.status) e)
ends_usage held (Some help) outcome e =
    let same : outcome.status ≡ 0 = ap (λ (o : Outcome). o.status) e in
    ((λ is. absurd (omega (arith, same, is))), λ none. absurd (none-some help (sym none)))
ends_usage held (Some version) outcome e =
    let same : outcome.status ≡ 0 = ap (λ (o : Outcome). o.status) e in
    ((λ is. absurd (omega (arith, same, is))), λ none. absurd (none-some version (sym none)))
ends_usage held (Some (fit plain name out)) outcome e =
    let fine = file_fine plain name out held outcome e in
    ((λ is. absurd (fine.asked is)), λ none. absurd (none-some (fit plain name out) (sym none)))

pub ending_usage : (words : List (List ℕ)) (held : Option Files) (outcome : Outcome) →
    IsEnding words held outcome → outcome.status ≡ 2 ↔ requested words ≡ None
ending_usage words held outcome is = ends_usage held (requested words) outcome is

-- a run has no status of what fails later
pub ending_calm : (words : List (List ℕ)) (held : Option Files) (outcome : Outcome) → IsEnding words held outcome →
    (outcome.status ≢ 5) × (outcome.status ≢ 6)
ending_calm words held outcome is = ends_calm held (requested words) outcome is

-- a run puts under the name of its words
pub ending_puts : (words : List (List ℕ)) (held : Option Files) (outcome : Outcome) (file : PutFile) →
    IsEnding words held outcome → outcome.put ≡ Some file → WordsPutUnder words file.name × (outcome.status ≡ 0)
ending_puts words held outcome file is put =
    let by = ends_puts held (requested words) outcome file is put in ((by.plain, (by.name, by.asked)), by.done)

-- a run that puts may end by a failing shelf
ends_faulted : (held : Option Files) (request : Option Request) (outcome : Outcome) (file : PutFile) →
    EndsRequest held request outcome → outcome.put ≡ Some file → EndsRequest held request (says 4 shelf_fault_line)
ends_faulted held None outcome file e put = absurd (said_nothing 2 _ outcome file e put)
ends_faulted held (Some help) outcome file e put = absurd (said_nothing 0 _ outcome file e put)
ends_faulted held (Some version) outcome file e put = absurd (said_nothing 0 _ outcome file e put)
ends_faulted held (Some (fit plain name out)) outcome file e put = inr (inl refl)

pub ending_faulted : (words : List (List ℕ)) (held : Option Files) (outcome : Outcome) (file : PutFile)
    (failed : Outcome) → IsEnding words held outcome → outcome.put ≡ Some file →
    failed ≡ says 4 shelf_fault_line → IsEnding words held failed
ending_faulted words held outcome file failed is put e =
    subst (λ o. IsEnding words held o) (sym e) (ends_faulted held (requested words) outcome file is put)

-- a name that the words put nothing under stays
pub stays_by_put : (words : List (List ℕ)) (before mid now : Option Files) (outcome : Outcome) (file : PutFile)
    (put name : List ℕ) → IsEnding words before outcome → outcome.put ≡ Some file → mid ≡ before →
    put ≡ file.name → OthersStay put mid now → ¬ (WordsPutUnder words name) → StaysAt name before now
stays_by_put words before mid now outcome file put name ending has kept at others never =
    let puts = ending_puts words before outcome file ending has in
    let apart : name ≢ put = λ same. never (subst (WordsPutUnder words) (sym (same ∙ at)) puts.0) in
    subst (λ h. StaysAt name h now) kept (others name apart)
