-- A file that was read is checked: a rule is broken, or the next stage goes on.
use Rattle.std.specs.Prelude.{◌≡◌, ◌⊎◌, ℕ, List}
use Rattle.doc_bits.specs.Rules.{Rules, Hold}
use Rattle.doc_bits.specs.Places.{Place, IsFirstPlace}
use Rattle.run_stages.specs.Lines.{rule_line}
use Rattle.run_stages.specs.Outcomes.{Outcome, says}

-- a rule is broken, and the line names the first one at its least place
pub record IsRuleRefusal (rules : Rules Place) (name : List ℕ) (outcome : Outcome) : Type 0 where
  pub rule : ℕ
  pub place : Place
  pub first : IsFirstPlace rules rule place
  pub ends : outcome ≡ says 1 (rule_line name rule place)

-- a stage that checks: a rule is broken, or the next stage goes on
abbrev pub Judges : Rules Place → (name : List ℕ) → (Outcome → Type 0) → Outcome → Type 0
Judges rules name next outcome = IsRuleRefusal rules name outcome ⊎ (Hold rules × next outcome)
