-- How a run of docfit may end.
use Rattle.std.specs.Prelude.{◌≡◌, ℕ, List, Option, Some, None}
use Rattle.doc_outer.specs.Held.{Files}
use Rattle.run_stages.specs.Outcomes.{Outcome, says}
use Rattle.docfit_run.specs.declared.run.TheConstants.{HELP, VERSION, USAGE}
use Rattle.docfit_run.specs.Requests.{Request, help, version, fit, requested}
use Rattle.docfit_run.specs.Fitted.{FitsFile}

-- what a request comes to
abbrev pub EndsRequest : Option Files → Option Request → Outcome → Type 0
EndsRequest held None outcome = outcome ≡ says 2 USAGE.now
EndsRequest held (Some help) outcome = outcome ≡ says 0 HELP.now
EndsRequest held (Some version) outcome = outcome ≡ says 0 VERSION.now
EndsRequest held (Some (fit plain file out)) outcome = FitsFile plain file out held outcome

-- what a run over these words and this shelf may come to
abbrev pub IsEnding : List (List ℕ) → Option Files → Outcome → Type 0
IsEnding words held outcome = EndsRequest held (requested words) outcome
