-- The stages of a run that read: each ends the run, or hands the bytes of a name on to the next one.
use Rattle.std.specs.Prelude.{◌≡◌, ◌⊎◌, ℕ, ◌+◌, ◌≤◌, List, Option, length}
use Rattle.doc_bits.specs.declared.places.Where.TheVariants.{File}
use Rattle.doc_bits.specs.Number.{AreBytes}
use Rattle.doc_bits.specs.Rules.{Rules}
use Rattle.doc_bits.specs.Places.{Place}
use Rattle.doc_outer.specs.Held.{Files, Told, IsAbsent, IsLonger, HoldsExactly}
use Rattle.run_stages.specs.Lines.{rule_line, missing_line, shelf_fault_line}
use Rattle.run_stages.specs.Outcomes.{Outcome, says}
use Rattle.run_stages.specs.Judged.{Judges}

-- the most bytes of a file
abbrev pub longest_file : ℕ
longest_file = 7143936

-- the name is not there
pub record IsMissing (name : List ℕ) (held : Option Files) (outcome : Outcome) : Type 0 where
  pub absent : Told held name IsAbsent
  pub ends : outcome ≡ says 3 (missing_line name)

-- the shelf failed
abbrev pub IsShelfFault : Outcome → Type 0
IsShelfFault outcome = outcome ≡ says 4 shelf_fault_line

-- the name holds more bytes than any file has
pub record IsOverlong
    (name : List ℕ) (held : Option Files) (overlong : Outcome → Type 0) (outcome : Outcome) : Type 0 where
  pub longer : Told held name (IsLonger longest_file)
  pub ends : overlong outcome

-- the name was read whole: it holds bytes, no more than any file has, and the next stage goes on with them
pub record IsReadWhole
    (name : List ℕ) (held : Option Files) (next : List ℕ → Outcome → Type 0) (outcome : Outcome) : Type 0 where
  pub bytes : List ℕ
  pub told : Told held name (HoldsExactly bytes)
  pub are : AreBytes bytes
  pub short : length bytes ≤ longest_file
  pub goes_on : next bytes outcome

-- a stage that reads a name: what an overlong file means is the stage's own
abbrev pub ReadsNamedFile : (name : List ℕ) → Option Files → (Outcome → Type 0) → (List ℕ → Outcome → Type 0) → Outcome
    → Type 0
ReadsNamedFile name held overlong next outcome =
    IsMissing name held outcome
    ⊎ (IsShelfFault outcome ⊎ (IsOverlong name held overlong outcome ⊎ IsReadWhole name held next outcome))

-- a file that is overlong breaks rule 1
abbrev pub BreaksLengthRule : (name : List ℕ) → Outcome → Type 0
BreaksLengthRule name outcome = outcome ≡ says 1 (rule_line name 1 (File, longest_file + 1))

-- a file is read and checked by these rules, and the next stage goes on with its bytes
abbrev pub ReadsFile :
    (name : List ℕ) → Option Files → (List ℕ → Rules Place) → (List ℕ → Outcome → Type 0) → Outcome → Type 0
ReadsFile name held rules next =
    ReadsNamedFile name held (BreaksLengthRule name) (λ bytes. Judges (rules bytes) name (next bytes))
