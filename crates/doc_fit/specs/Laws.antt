-- What the rules of a fit ask of a file that docbin accepts.
use Rattle.std.specs.Prelude.{ℕ, List}
use Rattle.doc_bits.specs.Number.{AreBytes}
use Rattle.doc_bits.specs.Places.{Place, IsFirstPlace}
use Rattle.doc_read.specs.Holds.{IsAccepted}
use Rattle.doc_fit.specs.Rules.{fit_rules}

-- such a file breaks none of them
abbrev pub AcceptedFilesBreakNone : Type 0
AcceptedFilesBreakNone = (file : List ℕ) (number : ℕ) (place : Place) → AreBytes file → IsAccepted file →
    ¬ (IsFirstPlace (fit_rules file) number place)
