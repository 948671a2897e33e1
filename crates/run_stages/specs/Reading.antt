-- What reading a name came to, and what comes of that.
use Rattle.std.specs.Prelude.{◌≡◌, ◌⊎◌, ℕ, ◌≤◌, List, length, Option}
use Rattle.doc_bits.specs.Number.{AreBytes}
use Rattle.doc_outer.specs.Held.{Files, Told, HoldsExactly}
use Rattle.run_stages.specs.declared.stage.Stage.{Stage}
use Rattle.run_stages.specs.declared.stage.Stage.TheVariants.{Go, Stop}
use Rattle.run_stages.specs.Outcomes.{Outcome}
use Rattle.run_stages.specs.Stages.{longest_file, IsMissing, IsShelfFault, IsOverlong}

-- this is what the name holds, and no more than a file has
pub record IsFoundFile (name : List ℕ) (held : Option Files) (bytes : List ℕ) : Type 0 where
  pub told : Told held name (HoldsExactly bytes)
  pub short : length bytes ≤ longest_file

-- the bytes of the name, or how the run ends
abbrev pub IsFileStage : (name : List ℕ) → Option Files → (overlong : Outcome → Type 0) → Stage (List ℕ) → Type 0
IsFileStage name held overlong (Go bytes) = IsFoundFile name held bytes
IsFileStage name held overlong (Stop ending) =
    IsMissing name held ending ⊎ (IsShelfFault ending ⊎ IsOverlong name held overlong ending)

-- the status of a run that a stage ends
abbrev pub stage_status : {T : Type 0} → Stage T → ℕ
stage_status (Go next) = 0
stage_status (Stop ending) = ending.status

-- a run ends so where its bytes go to the next stage, or as reading ended it
abbrev pub FollowsStage : Stage (List ℕ) → (next : List ℕ → Outcome → Type 0) → Outcome → Type 0
FollowsStage (Go bytes) next outcome = AreBytes bytes × next bytes outcome
FollowsStage (Stop ending) next outcome = outcome ≡ ending

-- bytes were read, and this is so of them
abbrev pub IsWholeIn : Stage (List ℕ) → (List ℕ → Type 0) → Type 0
IsWholeIn (Go bytes) such = AreBytes bytes × such bytes
IsWholeIn (Stop ending) such = ⊥
