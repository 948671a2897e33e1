-- Which calls of a are-in are to fail. Calls are numbered from 1 to 4,294,967,295; later calls have no number.
use Rattle.std.specs.Prelude.{ℕ, ◌+◌, ◌<◌, List, [], ◌∷◌, ◌++◌, min, Contains}

pub record FaultPlan : Type 0 where
  -- the numbers of the calls that are to fail
  pub failing : List ℕ
  -- how many calls had a number so far
  pub numbered : ℕ

-- the last number of a call
abbrev pub last_number : ℕ
last_number = 4294967295

-- no call is to fail, and none was made
abbrev pub no_plan : FaultPlan
no_plan = record { failing = []; numbered = 0 }

-- also the call of this number is to fail
abbrev pub fails_at : FaultPlan → ℕ → FaultPlan
fails_at plan number = record { failing = plan.failing ++ number ∷ []; numbered = plan.numbered }

-- after one more call
abbrev pub after_call : FaultPlan → FaultPlan
after_call plan = record { failing = plan.failing; numbered = min (plan.numbered + 1) last_number }

-- the next call has a number, and it is one of those that are to fail
abbrev pub FailsNext : FaultPlan → Type 0
FailsNext plan = (plan.numbered < last_number) × Contains plan.failing (plan.numbered + 1)
