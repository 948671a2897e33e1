-- On finding a name among entries.
use Rattle.std.proofs.Common.{◌≡◌, ℕ, Bool, cond, List, ◌∷◌, ap, ◌∙◌}
use Rattle.std.specs.Prelude.{Some}
use Rattle.std.specs.Ordering.{nat_cmp}
use Rattle.std.specs.Cmp.Lexicographic.{slice_cmp}
use Rattle.std.specs.FinMap.{find}
use Rattle.std.specs.Str.{bytes_eq}
use Rattle.std.proofs.lemmas.Map.Text.{is_eq-slice_cmp}

-- the first entry counts where it has the name; else the name is looked for behind it
pub find-cons : (name : List ℕ) (entry : List ℕ × List ℕ) (rest : List (List ℕ × List ℕ)) (same : Bool) →
    bytes_eq name entry.0 ≡ same → find (slice_cmp nat_cmp) name (entry ∷ rest) ≡ cond same (Some entry.1)
    (find (slice_cmp nat_cmp) name rest)
find-cons name entry rest same is =
    ap (λ b. cond b (Some entry.1) (find (slice_cmp nat_cmp) name rest)) (is_eq-slice_cmp name entry.0 ∙ is)
