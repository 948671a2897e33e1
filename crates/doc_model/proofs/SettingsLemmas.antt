-- Two properties are the same where their entries are.
use Rattle.std.proofs.Common.{◌≡◌, ap, refl, List, [], ◌∷◌}
use Rattle.std.specs.Prelude.{◌&&◌, ◌==◌}
use Rattle.std.specs.Bool.{Decides}
use Rattle.std.specs.FinMap.{entries, same_entries_map}
use Rattle.std.specs.Str.{bytes_eq}
use Rattle.std.proofs.lemmas.Bool.Decides.{Decides-and, Decides-like, Decides-eqb}
use Rattle.std.proofs.lemmas.Slice.Eq.{bytes_eq-Decides}
use Rattle.sprm_table.specs.Sprm.{Prl}
use Rattle.prop_map.specs.Settings.{Properties}
use Rattle.doc_model.specs.Settings.{same_prls, same_properties}

heads : (a b : Prl) (more others : List Prl) → a ∷ more ≡ b ∷ others → (a.0 ≡ b.0) × ((a.1 ≡ b.1) × (more ≡ others))
heads a b more others e =
    let first : a ≡ b = cc in let rest : more ≡ others = cc in (ap (λ p. p.0) first, (ap (λ p. p.1) first, rest))

same_prls-Decides : (xs ys : List Prl) → Decides (same_prls xs ys) (xs ≡ ys)
same_prls-Decides [] [] = (λ _. refl, λ _. refl)
same_prls-Decides [] (b ∷ others) = (λ e. absurd (cc), λ e. absurd (cc))
same_prls-Decides (a ∷ more) [] = (λ e. absurd (cc), λ e. absurd (cc))
same_prls-Decides (a ∷ more) (b ∷ others) =
    Decides-like _ (λ h. let rest = h.1.1 in let code = h.0 in let value = h.1.0 in λ i. (code i, value i) ∷ rest i)
    (heads a b more others)
    (Decides-and (a.0 == b.0) (bytes_eq a.1 b.1 && same_prls more others) (Decides-eqb a.0 b.0)
    (Decides-and (bytes_eq a.1 b.1) (same_prls more others) (bytes_eq-Decides a.1 b.1) (same_prls-Decides more others)))

pub same_properties-Decides : (one other : Properties) → Decides (same_properties one other) (one ≡ other)
same_properties-Decides one other =
    Decides-like _ (same_entries_map one other) (ap entries) (same_prls-Decides (entries one) (entries other))
