-- What layers make of a value, and the effective value.
use Rattle.std.proofs.Common.{◌≡◌, ℕ, ◌==◌, true, false, cond, List, [], ◌∷◌, ◌++◌, Option, None, refl, sym, ap}
use Rattle.std.proofs.Common.{◌∙◌, append_assoc}
use Rattle.std.proofs.lemmas.List.{append-nil}
use Rattle.std.specs.FinMap.{get}
use Rattle.sprm_table.specs.Codes.{class_of}
use Rattle.prop_map.specs.Settings.{Properties}
use Rattle.effective_props.specs.Values.{tabs_code, is_toggle, effective_value}
use Rattle.effective_props.specs.ValueSteps.{layer_over}
use Rattle.effective_props.proofs.Public.{effective_more}
use Rattle.char_formats.specs.Changes.{over_all}

pub over_all-append : (xs ys : List Properties) (code : ℕ) (before : Option (List ℕ)) → over_all (xs ++ ys) code before
    ≡
    over_all ys code (over_all xs code before)
over_all-append [] ys code before = refl
over_all-append (x ∷ xs) ys code before = over_all-append xs ys code (layer_over code before (get x code))

effective-none : (code : ℕ) → effective_value [] code ≡ None
effective-none code =
    elim (code == tabs_code)
    as (λ b. cond {A = Option (List ℕ)} b None (cond (is_toggle (class_of code)) None None) ≡ None) [
      | true ↦ refl
      | false ↦ elim (is_toggle (class_of code))
          as (λ b. cond {A = Option (List ℕ)} b None None ≡ None) [ true ↦ refl | false ↦ refl ]
    ]

over-effective : (xs ys : List Properties) (code : ℕ) → over_all ys code (effective_value xs code) ≡ effective_value (xs
    ++ ys) code
over-effective xs [] code = ap (λ l. effective_value l code) (sym (append-nil xs))
over-effective xs (y ∷ ys) code =
    ap (over_all ys code) (sym (effective_more xs y code)) ∙ (over-effective (xs ++ y ∷ []) ys code ∙ ap (λ l.
    effective_value l code) (append_assoc xs (y ∷ []) ys))

-- over nothing the layers make the effective value
pub over_all-effective : (layers : List Properties) (code : ℕ) → over_all layers code None ≡ effective_value layers code
over_all-effective layers code = ap (over_all layers code) (sym (effective-none code)) ∙ over-effective [] layers code
