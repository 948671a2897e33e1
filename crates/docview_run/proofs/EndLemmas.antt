-- How a run may end.
use Rattle.std.proofs.Common.{◌≡◌, ◌≢◌, ◌⊎◌, ℕ, List, [], refl, sym, ap, subst, inl, inr, ◌∙◌}
use Rattle.std.proofs.Common.{arith}
use Rattle.std.specs.Prelude.{if◌then◌else◌, ◌==◌}
use Rattle.doc_outer.specs.Counts.{Rose}
use Rattle.doc_outer.specs.Written.{Appends, AppendsPrefix}
use Rattle.doc_outer.specs.declared.sink.Sink.{Ghosts}
use Rattle.doc_outer.proofs.Public.{Appends-nil}
use Rattle.std.proofs.lemmas.Option.{none-some}
use Rattle.std.specs.Prelude.{◌↔◌, None, Option, Some}
use Rattle.doc_bits.specs.Number.{AreBytes}
use Rattle.doc_outer.specs.Held.{Files}
use Rattle.run_stages.specs.Leaves.{HasCause}
use Rattle.run_stages.specs.Outcomes.{Outcome, says}
use Rattle.run_stages.specs.Reading.{IsFoundFile}
use Rattle.run_stages.specs.Stages.{BreaksLengthRule, IsMissing, IsOverlong, IsReadWhole, IsShelfFault, ReadsNamedFile}
use Rattle.docview_run.specs.Endings.{IsOfFile, RunEnds, Shows, standard_output}
use Rattle.docview_run.specs.Requests.{Request}

-- there was no memory
pub memory_ends : {K : Type 0} (ends : Outcome → Type 0) (sink : Ghosts K) (out : K) → RunEnds ends sink out out 6
memory_ends ends sink out = record {
  ending = λ _ no. absurd (no refl);
  prefix = λ is. absurd (omega (arith, is));
  rose = λ is. absurd (omega (arith, is));
  nothing = λ _. refl;
}

-- a status at which nothing is printed
abbrev pub IsTold : ℕ → Type 0
IsTold status = ((status ≡ 1) ⊎ (status ≡ 2)) ⊎ (((status ≡ 3) ⊎ (status ≡ 4)) ⊎ ((status ≡ 15) ⊎ (status ≡ 16)))

text_of_status : Outcome → ℕ → List ℕ
text_of_status outcome status = if status == 0 then outcome.text else []

told_nothing : (outcome : Outcome) (status : ℕ) → outcome.status ≡ status → IsTold status → standard_output outcome ≡ []
unfolding text_of_status
told_nothing outcome status is (inl (inl e)) = ap (text_of_status outcome) (is ∙ e)
told_nothing outcome status is (inl (inr e)) = ap (text_of_status outcome) (is ∙ e)
told_nothing outcome status is (inr (inl (inl e))) = ap (text_of_status outcome) (is ∙ e)
told_nothing outcome status is (inr (inl (inr e))) = ap (text_of_status outcome) (is ∙ e)
told_nothing outcome status is (inr (inr (inl e))) = ap (text_of_status outcome) (is ∙ e)
told_nothing outcome status is (inr (inr (inr e))) = ap (text_of_status outcome) (is ∙ e)

not_five : (status : ℕ) → IsTold status → status ≢ 5
not_five status (inl (inl e)) = λ five. absurd (omega (arith, e, five))
not_five status (inl (inr e)) = λ five. absurd (omega (arith, e, five))
not_five status (inr (inl (inl e))) = λ five. absurd (omega (arith, e, five))
not_five status (inr (inl (inr e))) = λ five. absurd (omega (arith, e, five))
not_five status (inr (inr (inl e))) = λ five. absurd (omega (arith, e, five))
not_five status (inr (inr (inr e))) = λ five. absurd (omega (arith, e, five))

-- an outcome of which nothing is printed
pub told_ends : {K : Type 0} (ends : Outcome → Type 0) (sink : Ghosts K) (out : K) (outcome : Outcome) (status : ℕ) →
    outcome.status ≡ status → IsTold status → ends outcome → RunEnds ends sink out out status
told_ends ends sink out outcome status is which said = record {
  ending = λ no no_memory. (
    outcome,
    (
      is,
      (
        said,
        subst (λ (text : List ℕ). Appends (sink.written out) (sink.written out) text)
            (sym (told_nothing outcome status is which)) (Appends-nil (sink.written out)),
      ),
    ),
  );
  prefix = λ five. absurd (not_five status which five);
  rose = λ five. absurd (not_five status which five);
  nothing = λ six. refl;
}

-- the text of an outcome was printed
pub text_ends : {K : Type 0} (ends : Outcome → Type 0) (sink : Ghosts K) (out after : K) (text : List ℕ) →
    ends (says 0 text) → Appends (sink.written out) (sink.written after) text → RunEnds ends sink out after 0
text_ends ends sink out after text said all = record {
  ending = λ no no_memory. (says 0 text, (refl, (said, all)));
  prefix = λ is. absurd (omega (arith, is));
  rose = λ is. absurd (omega (arith, is));
  nothing = λ is. absurd (omega (arith, is));
}

-- the sink failed behind a part of it
pub cut_ends : {K : Type 0} (ends : Outcome → Type 0) (sink : Ghosts K) (out after : K) (text : List ℕ) →
    ends (says 0 text) → AppendsPrefix (sink.written out) (sink.written after) text →
    Rose (sink.faults out) (sink.faults after) → RunEnds ends sink out after 5
cut_ends ends sink out after text said some rose = record {
  ending = λ no. absurd (no refl);
  prefix = λ is. (says 0 text, (refl, (said, some)));
  rose = λ is. rose;
  nothing = λ is. absurd (omega (arith, is));
}

-- the same outcomes, said otherwise
pub ends_weaker : {K : Type 0} (one other : Outcome → Type 0) (sink : Ghosts K) (out after : K) (status : ℕ) →
    ((outcome : Outcome) → one outcome → other outcome) → RunEnds one sink out after status →
    RunEnds other sink out after status
ends_weaker one other sink out after status weaker is = record {
  ending = λ no no_memory.
      let e = is.ending no no_memory in
      (e.0, (e.1.0, (weaker e.0 e.1.1.0, e.1.1.1)));
  prefix = λ five.
      let e = is.prefix five in
      (e.0, (e.1.0, (weaker e.0 e.1.1.0, e.1.1.1)));
  rose = is.rose;
  nothing = is.nothing;
}

-- ---- reading

status_of : Outcome → ℕ
status_of outcome = outcome.status

-- reading ended the run
pub stopped_ends : {K : Type 0} (sink : Ghosts K) (out : K) (name : List ℕ) (held : Option Files)
    (next : List ℕ → Outcome → Type 0) (ending : Outcome) →
    IsMissing name held ending ⊎ (IsShelfFault ending ⊎ IsOverlong name held (BreaksLengthRule name) ending) →
    RunEnds (ReadsNamedFile name held (BreaksLengthRule name) next) sink out out ending.status
unfolding status_of
stopped_ends sink out name held next ending (inl missing) =
    told_ends (ReadsNamedFile name held (BreaksLengthRule name) next) sink out ending ending.status refl
    (inr (inl (inl (ap status_of missing.ends)))) (inl missing)
stopped_ends sink out name held next ending (inr (inl fault)) =
    told_ends (ReadsNamedFile name held (BreaksLengthRule name) next) sink out ending ending.status refl
    (inr (inl (inr (ap status_of fault)))) (inr (inl fault))
stopped_ends sink out name held next ending (inr (inr long)) =
    told_ends (ReadsNamedFile name held (BreaksLengthRule name) next) sink out ending ending.status refl
    (inl (inl (ap status_of long.ends))) (inr (inr (inl long)))

pub stopped_status : (name : List ℕ) (held : Option Files) (ending : Outcome) →
    IsMissing name held ending ⊎ (IsShelfFault ending ⊎ IsOverlong name held (BreaksLengthRule name) ending) →
    ending.status ≢ 2
unfolding status_of
stopped_status name held ending (inl missing) =
    let e : ending.status ≡ 3 = ap status_of missing.ends in λ two. absurd (omega (arith, e, two))
stopped_status name held ending (inr (inl fault)) =
    let e : ending.status ≡ 4 = ap status_of fault in λ two. absurd (omega (arith, e, two))
stopped_status name held ending (inr (inr long)) =
    let e : ending.status ≡ 1 = ap status_of long.ends in λ two. absurd (omega (arith, e, two))

-- the file was read whole
pub file_ends : {K : Type 0} (sink : Ghosts K) (out after : K) (name : List ℕ) (held : Option Files)
    (next : List ℕ → Outcome → Type 0) (bytes : List ℕ) (status : ℕ) → IsFoundFile name held bytes → AreBytes bytes →
    RunEnds (next bytes) sink out after status →
    RunEnds (ReadsNamedFile name held (BreaksLengthRule name) next) sink out after status
file_ends sink out after name held next bytes status found are =
    ends_weaker (next bytes) (ReadsNamedFile name held (BreaksLengthRule name) next) sink out after status
    (λ outcome shown. inr (inr (inr (record {
      bytes = bytes;
      told = found.told;
      are = are;
      short = found.short;
      goes_on = shown;
    }))))

pub file_caused : (status a b c d : ℕ) → IsOfFile status → HasCause status a b c d
file_caused status a b c d (inl low) =
    record { missing = λ is. absurd (omega (arith, low, is)); shelf_fault = λ is. absurd (omega (arith, low, is)) }
file_caused status a b c d (inr high) =
    record { missing = λ is. absurd (omega (arith, high, is)); shelf_fault = λ is. absurd (omega (arith, high, is)) }

pub file_asked : (status : ℕ) → IsOfFile status → status ≢ 2
file_asked status (inl low) = λ two. absurd (omega (arith, low, two))
file_asked status (inr high) = λ two. absurd (omega (arith, high, two))

-- ---- words

-- a text that was printed
pub printed_after : (status : ℕ) → (status ≡ 0) ⊎ (status ≡ 5) → IsOfFile status
printed_after status (inl e) = inl (omega (arith, e))
printed_after status (inr e) = inr (omega (arith, e))

-- words that ask for something do not end with their own status
pub usage_apart : (status : ℕ) (asked : Option Request) (request : Request) → asked ≡ Some request → status ≢ 2 →
    (status ≡ 2) ↔ (asked ≡ None)
usage_apart status asked request is other =
    (λ two. absurd (other two), λ none. absurd (none-some request (sym none ∙ is)))

-- an end of what was asked for is one of the words
pub asked_ends : {K : Type 0} (sink : Ghosts K) (out after : K) (held : Option Files) (asked : Option Request)
    (request : Request) (status : ℕ) → asked ≡ Some request →
    RunEnds (λ outcome. Shows held (Some request) outcome) sink out after status →
    RunEnds (λ outcome. Shows held asked outcome) sink out after status
asked_ends sink out after held asked request status is ends =
    subst (λ (a : Option Request). RunEnds (λ (outcome : Outcome). Shows held a outcome) sink out after status) (sym is)
    ends

-- words that ask for nothing
pub usage_ends : {K : Type 0} (sink : Ghosts K) (out : K) (held : Option Files) (asked : Option Request) →
    asked ≡ None → RunEnds (λ outcome. Shows held asked outcome) sink out out 2
usage_ends sink out held asked is =
    told_ends (λ outcome. Shows held asked outcome) sink out (says 2 []) 2 refl (inl (inr refl))
    (subst (λ (a : Option Request). Shows held a (says 2 [])) (sym is) refl)
