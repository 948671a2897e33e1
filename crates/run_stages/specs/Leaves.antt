-- What a run leaves of a shelf, and what its status says of it.
use Rattle.std.specs.Prelude.{◌≡◌, ◌≢◌, ◌⊎◌, ℕ, Option, Some, None}
use Rattle.doc_outer.specs.Counts.{Rose, CountGoesOn}
use Rattle.doc_outer.specs.Held.{Files, held_with}
use Rattle.doc_outer.specs.declared.shelf.Shelf.{Ghosts}
use Rattle.run_stages.specs.Outcomes.{PutFile, Outcome}

-- a status for a missing name or a failing shelf comes only where its count rose
pub record HasCause (status missed_before missed_now faults_before faults_now : ℕ) : Type 0 where
  pub missing : status ≡ 3 → Rose missed_before missed_now
  pub shelf_fault : status ≡ 4 → Rose faults_before faults_now

-- the same between two states of a shelf
abbrev pub IsCaused : {S : Type 0} → Ghosts S → S → S → ℕ → Type 0
IsCaused shelf before now status =
    HasCause status (shelf.missed before) (shelf.missed now) (shelf.faults before) (shelf.faults now)

-- the shelf was read and nothing else: it holds what it held, counts go on, and no put failed
pub record IsOnlyRead {S : Type 0} (shelf : Ghosts S) (before now : S) : Type 0 where
  pub kept : shelf.held now ≡ shelf.held before
  pub faults : CountGoesOn (shelf.faults before) (shelf.faults now)
  pub missed : CountGoesOn (shelf.missed before) (shelf.missed now)
  pub put_faults : shelf.put_faults now ≡ shelf.put_faults before

-- what names hold after a put, where that is known
abbrev pub held_after : Option PutFile → Option Files → Option Files
held_after None held = held
held_after (Some file) held = held_with held file.name file.bytes

-- the shelf did not fail, or at least no put did: the count of failed puts is the last number
abbrev pub IsToldOfPut : (status faults_before faults_now : ℕ) → Type 0
IsToldOfPut status faults_before faults_now = (status ≢ 4) ⊎ ¬ (Rose faults_before faults_now)

-- the file of the outcome is put, and nothing else is changed; where a put failed, nothing is said here
abbrev pub LeavesPut : Outcome → (faults_before faults_now : ℕ) → (before now : Option Files) → Type 0
LeavesPut outcome faults_before faults_now before now =
    IsToldOfPut outcome.status faults_before faults_now → now ≡ held_after outcome.put before
