-- A run whose answer is no list has none.
use Rattle.std.proofs.Common.{◌≢◌, refl, ℕ, List}
use Rattle.fkp_pages.specs.declared.kind.PageKind.{PageKind}
use Rattle.fkp_pages.specs.declared.kind.RunAnswer.{RunAnswer}
use Rattle.fkp_pages.specs.declared.kind.RunAnswer.TheVariants.{Found, Empty, NoRun, BadCount, Leaves}
use Rattle.fkp_pages.specs.Fkp.{IsListOf, IsAnswerOf}

pub no_list : (kind : PageKind) (page : List ℕ) (run : ℕ) (answer : RunAnswer) → IsAnswerOf kind page run answer →
    ((from to : ℕ) → answer ≢ Found from to) → (from to : ℕ) → ¬ (IsListOf kind page run from to)
no_list kind page run (Found a b) is none from to list = none a b refl
no_list kind page run Empty is none from to list = list.some is
no_list kind page run NoRun is none from to list = is
no_list kind page run BadCount is none from to list = is
no_list kind page run (Leaves entry) is none from to list = is.beyond list.within
