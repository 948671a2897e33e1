-- What comes of reading a name is an ending of the stage that reads it, and has its cause.
use Rattle.std.proofs.Common.{◌≡◌, ◌∙◌, inl, inr, sym, subst, ℕ, List, Option, Result, arith}
use Rattle.std.specs.Prelude.{IfOk}
use Rattle.std.proofs.lemmas.Result.{IfOk-weaker}
use Rattle.doc_bits.specs.Number.{AreBytes}
use Rattle.doc_bits.specs.Rules.{Rules}
use Rattle.doc_bits.specs.Places.{Place}
use Rattle.doc_outer.specs.Held.{Files}
use Rattle.doc_outer.specs.declared.shelf.Shelf.{Ghosts}
use Rattle.doc_outer.proofs.Public.{Rose-after, count_on}
use Rattle.run_stages.specs.declared.stage.Stage.{Stage}
use Rattle.run_stages.specs.declared.stage.Stage.TheVariants.{Go, Stop}
use Rattle.run_stages.specs.Outcomes.{Outcome, IsAfterReading}
use Rattle.run_stages.specs.Judged.{Judges}
use Rattle.run_stages.specs.Leaves.{HasCause, IsCaused, IsOnlyRead}
use Rattle.run_stages.specs.Stages.{IsMissing, IsShelfFault, IsOverlong, ReadsNamedFile, ReadsFile, BreaksLengthRule}
use Rattle.run_stages.specs.Reading.{IsFileStage, stage_status, FollowsStage}
use Rattle.run_stages.proofs.OutcomeLemmas.{said_inside}
use Rattle.run_stages.proofs.JudgedLemmas.{judged_inside}

-- what a name is read with, where an overlong one ends the run in a way that is said otherwise
pub taken_weaker :
    (name : List ℕ) (held : Option Files) (one other : Outcome → Type 0) (taken : Stage (List ℕ)) →
    ((o : Outcome) → one o → other o) → IsFileStage name held one taken → IsFileStage name held other taken
taken_weaker name held one other (Go bytes) step is = is
taken_weaker name held one other (Stop ending) step (inl missing) = inl missing
taken_weaker name held one other (Stop ending) step (inr (inl fault)) = inr (inl fault)
taken_weaker name held one other (Stop ending) step (inr (inr long)) =
    inr (inr (record { longer = long.longer; ends = step ending long.ends }))

stopped_as :
    (name : List ℕ) (held : Option Files) (overlong : Outcome → Type 0) (next : List ℕ → Outcome → Type 0)
    (ending : Outcome) → IsFileStage name held overlong (Stop ending) → ReadsNamedFile name held overlong next ending
stopped_as name held overlong next ending (inl missing) = inl missing
stopped_as name held overlong next ending (inr (inl fault)) = inr (inl fault)
stopped_as name held overlong next ending (inr (inr long)) = inr (inr (inl long))

pub follow_reads :
    (name : List ℕ) (held : Option Files) (taken : Stage (List ℕ)) (overlong : Outcome → Type 0)
    (next : List ℕ → Outcome → Type 0) (outcome : Outcome) → IsFileStage name held overlong taken →
    FollowsStage taken next outcome → ReadsNamedFile name held overlong next outcome
follow_reads name held (Go bytes) overlong next outcome is follows =
    inr (inr (inr (record {
      bytes = bytes;
      told = is.told;
      are = follows.0;
      short = is.short;
      goes_on = follows.1;
    })))
follow_reads name held (Stop ending) overlong next outcome is follows =
    subst (λ o. ReadsNamedFile name held overlong next o) (sym follows) (stopped_as name held overlong next ending is)

-- what comes of what was read is an ending of the stage
pub follows_reads :
    {E : Type 0} (name : List ℕ) (held : Option Files) (taken : Stage (List ℕ)) (overlong : Outcome → Type 0)
    (next : List ℕ → Outcome → Type 0) (result : Result Outcome E) → IsFileStage name held overlong taken →
    IfOk result (λ o. FollowsStage taken next o) → IfOk result (λ o. ReadsNamedFile name held overlong next o)
follows_reads name held taken overlong next result is follows =
    IfOk-weaker result (λ o. FollowsStage taken next o) (λ o. ReadsNamedFile name held overlong next o)
    (λ o f. follow_reads name held taken overlong next o is f) follows

-- the same of a file that is checked
pub file_reads :
    {E : Type 0} (name : List ℕ) (held : Option Files) (taken : Stage (List ℕ)) (rules : List ℕ → Rules Place)
    (next : List ℕ → Outcome → Type 0) (result : Result Outcome E) → IsFileStage name held (BreaksLengthRule name) taken
    →
    IfOk result (λ o. FollowsStage taken (λ bytes. Judges (rules bytes) name (next bytes)) o) →
    IfOk result (λ o. ReadsFile name held rules next o)
file_reads name held taken rules next result is follows =
    follows_reads name held taken (BreaksLengthRule name) (λ bytes. Judges (rules bytes) name (next bytes)) result is
    follows

-- what comes of the bytes that were read
pub whole_follows :
    {E : Type 0} (taken : Stage (List ℕ)) (bytes read : List ℕ) (next : List ℕ → Outcome → Type 0)
    (result : Result Outcome E) → taken ≡ Go bytes → read ≡ bytes → AreBytes read → IfOk result (λ o. next read o) →
    IfOk result (λ o. FollowsStage taken next o)
whole_follows taken bytes read next result whole same are goes_on =
    subst (λ t. IfOk result (λ o. FollowsStage t next o)) (sym whole)
    (subst (λ b. IfOk result (λ o. FollowsStage (Go b) next o)) same
    (IfOk-weaker result (λ o. next read o) (λ o. FollowsStage (Go read) next o) (λ o h. (are, h)) goes_on))

judges_map :
    (rules : Rules Place) (name : List ℕ) (P Q : Outcome → Type 0) (outcome : Outcome) → (P outcome → Q outcome) →
    Judges rules name P outcome → Judges rules name Q outcome
judges_map rules name P Q outcome step (inl x) = inl x
judges_map rules name P Q outcome step (inr x) = inr (x.0, step x.1)

-- a stage ends as the next one does
pub file_map :
    (name : List ℕ) (held : Option Files) (rules : List ℕ → Rules Place) (P Q : List ℕ → Outcome → Type 0)
    (outcome : Outcome) → ((bytes : List ℕ) → P bytes outcome → Q bytes outcome) →
    ReadsFile name held rules P outcome → ReadsFile name held rules Q outcome
file_map name held rules P Q outcome step (inl x) = inl x
file_map name held rules P Q outcome step (inr (inl x)) = inr (inl x)
file_map name held rules P Q outcome step (inr (inr (inl x))) = inr (inr (inl x))
file_map name held rules P Q outcome step (inr (inr (inr x))) =
    inr (inr (inr (record {
      bytes = x.bytes;
      told = x.told;
      are = x.are;
      short = x.short;
      goes_on = judges_map (rules x.bytes) name (P x.bytes) (Q x.bytes) outcome (step x.bytes) x.goes_on;
    })))

no_cause : (status a b c d : ℕ) → (status ≡ 3 → ⊥) → (status ≡ 4 → ⊥) → HasCause status a b c d
no_cause status a b c d three four = record { missing = λ s. absurd (three s); shelf_fault = λ s. absurd (four s) }

-- a status of what comes after reading needs no cause
pub inside_caused : (status a b c d : ℕ) → IsAfterReading status → HasCause status a b c d
inside_caused status a b c d (inl e) = no_cause status a b c d (λ s. omega (arith, e, s)) (λ s. omega (arith, e, s))
inside_caused status a b c d (inr e) = no_cause status a b c d (λ s. omega (arith, e, s)) (λ s. omega (arith, e, s))

follow_caused :
    (taken : Stage (List ℕ)) (next : List ℕ → Outcome → Type 0) (outcome : Outcome) (a b c d : ℕ) →
    ((bytes : List ℕ) → next bytes outcome → IsAfterReading outcome.status) →
    HasCause (stage_status taken) a b c d → FollowsStage taken next outcome → HasCause outcome.status a b c d
follow_caused (Go bytes) next outcome a b c d step cause follows =
    inside_caused outcome.status a b c d (step bytes follows.1)
follow_caused (Stop ending) next outcome a b c d step cause follows =
    subst (λ (o : Outcome). HasCause o.status a b c d) (sym follows) cause

-- what comes of what was read has the cause that reading had
pub follows_caused :
    {S E : Type 0} (shelf : Ghosts S) (before now : S) (taken : Stage (List ℕ)) (next : List ℕ → Outcome → Type 0)
    (result : Result Outcome E) → ((bytes : List ℕ) (o : Outcome) → next bytes o → IsAfterReading o.status) →
    IsCaused shelf before now (stage_status taken) → IfOk result (λ o. FollowsStage taken next o) →
    IfOk result (λ o. IsCaused shelf before now o.status)
follows_caused shelf before now taken next result step cause follows =
    IfOk-weaker result (λ o. FollowsStage taken next o) (λ o. IsCaused shelf before now o.status)
    (λ o f. follow_caused taken next o (shelf.missed before) (shelf.missed now) (shelf.faults before)
    (shelf.faults now) (λ bytes. step bytes o) cause f) follows

-- the same of a file that is checked
pub file_caused :
    {S E : Type 0} (shelf : Ghosts S) (before now : S) (name : List ℕ) (taken : Stage (List ℕ))
    (rules : List ℕ → Rules Place) (next : List ℕ → Outcome → Type 0) (result : Result Outcome E) →
    ((bytes : List ℕ) (o : Outcome) → next bytes o → IsAfterReading o.status) →
    IsCaused shelf before now (stage_status taken) →
    IfOk result (λ o. FollowsStage taken (λ bytes. Judges (rules bytes) name (next bytes)) o) →
    IfOk result (λ o. IsCaused shelf before now o.status)
file_caused shelf before now name taken rules next result step cause follows =
    follows_caused shelf before now taken (λ bytes. Judges (rules bytes) name (next bytes)) result
    (λ bytes o j. judged_inside (rules bytes) name (next bytes) o (step bytes o) j) cause follows

-- the same of an ending that a stage has
pub stopped_caused :
    {S : Type 0} (shelf : Ghosts S) (before now : S) (taken : Stage (List ℕ)) (next : List ℕ → Outcome → Type 0)
    (outcome : Outcome) → ((bytes : List ℕ) → next bytes outcome → IsAfterReading outcome.status) →
    IsCaused shelf before now (stage_status taken) → FollowsStage taken next outcome →
    IsCaused shelf before now outcome.status
stopped_caused shelf before now taken next outcome step cause follows =
    follow_caused taken next outcome (shelf.missed before) (shelf.missed now) (shelf.faults before)
    (shelf.faults now) step cause follows

-- a cause in a later part of a run is a cause in the run
cause_later :
    {S : Type 0} (shelf : Ghosts S) (before mid now : S) (status : ℕ) → IsOnlyRead shelf before mid →
    IsCaused shelf mid now status → IsCaused shelf before now status
cause_later shelf before mid now status read cause = record {
  missing = λ e. Rose-after (shelf.missed before) (shelf.missed mid) (shelf.missed now) read.missed (cause.missing e);
  shelf_fault = λ e. Rose-after (shelf.faults before) (shelf.faults mid) (shelf.faults now) read.faults
      (cause.shelf_fault e);
}

pub caused_later :
    {S E : Type 0} (shelf : Ghosts S) (before mid now : S) (result : Result Outcome E) → IsOnlyRead shelf before mid →
    IfOk result (λ o. IsCaused shelf mid now o.status) → IfOk result (λ o. IsCaused shelf before now o.status)
caused_later shelf before mid now result read cause =
    IfOk-weaker result (λ o. IsCaused shelf mid now o.status) (λ o. IsCaused shelf before now o.status)
    (λ o c. cause_later shelf before mid now o.status read c) cause

-- what is read twice is only read
pub read_twice :
    {S : Type 0} (shelf : Ghosts S) (before mid now : S) → IsOnlyRead shelf before mid → IsOnlyRead shelf mid now →
    IsOnlyRead shelf before now
read_twice shelf before mid now one other = record {
  kept = other.kept ∙ one.kept;
  faults = count_on (shelf.faults before) (shelf.faults mid) (shelf.faults now) one.faults other.faults;
  missed = count_on (shelf.missed before) (shelf.missed mid) (shelf.missed now) one.missed other.missed;
  put_faults = other.put_faults ∙ one.put_faults;
}
