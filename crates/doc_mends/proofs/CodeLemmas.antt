-- Codes of tables, one after the other.
use Rattle.std.proofs.Common.{◌≡◌, ◌∙◌, ap, refl, ℕ, Bool, true, false, List, [], ◌∷◌, ◌++◌, map, append_assoc}
use Rattle.std.specs.Prelude.{filter, if◌then◌else◌}
use Rattle.sprm_table.specs.Sprm.{Prl}
use Rattle.doc_mends.specs.PlainRows.{is_table_code}

one_code : (is : Bool) (code : ℕ) (rest : List ℕ) → (if is then code ∷ [] else []) ++ rest ≡ (if is then code ∷ rest
    else rest)
one_code true code rest = refl
one_code false code rest = refl

pub codes_next : (front : List ℕ) (code : ℕ) (value : List ℕ) (next : List Prl) →
    (front ++ (if is_table_code code then code ∷ [] else [])) ++ filter is_table_code (map (λ prl. prl.0) next) ≡ front
    ++ filter is_table_code (map (λ prl. prl.0) ((code, value) ∷ next))
codes_next front code value next =
    let rest : List ℕ = filter is_table_code (map (λ (prl : Prl). prl.0) next) in
    append_assoc front (if is_table_code code then code ∷ [] else []) rest
    ∙ ap (λ (l : List ℕ). front ++ l) (one_code (is_table_code code) code rest)
