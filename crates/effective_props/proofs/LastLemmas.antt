-- A code that is no toggle, by the last layer that has it.
use Rattle.std.proofs.Common.{◌≡◌, ◌≢◌, ℕ, ◌==◌, Bool, true, false, cond, List, [], ◌∷◌, ◌++◌, Option, None, refl, ap}
use Rattle.std.proofs.Common.{◌∙◌}
use Rattle.std.proofs.lemmas.Bool.{eqb-true}
use Rattle.std.proofs.lemmas.List.Elements.{All-head, All-tail, filter_map-append}
use Rattle.std.specs.List.{All, cons_option, last_or}
use Rattle.std.specs.FinMap.{get}
use Rattle.sprm_table.specs.Codes.{class_of}
use Rattle.prop_map.specs.Settings.{Properties}
use Rattle.effective_props.specs.Toggles.{toggle_value}
use Rattle.effective_props.specs.Values.{tabs_code, is_toggle, values_at, effective_value}
use Rattle.effective_props.specs.Laws.{LastLayerDecides}
use Rattle.effective_props.proofs.ValueLemmas.{last_of_more}

no_values : (code : ℕ) (layers : List Properties) → All (λ layer. get layer code ≡ None) layers → values_at layers code
    ≡ []
no_values code [] all = refl
no_values code (layer ∷ layers) all =
    ap (λ o. cons_option o (values_at layers code)) (All-head (λ l. get l code ≡ None) layer layers all)
    ∙ no_values code layers (All-tail (λ l. get l code ≡ None) layer layers all)

-- at such a code the last of the values counts
last_value : (layers : List Properties) (code : ℕ) → code ≢ tabs_code → is_toggle (class_of code) ≡ false →
    effective_value layers code ≡ last_or None (values_at layers code)
last_value layers code plain single = of_tests (code == tabs_code) (is_toggle (class_of code))
    (λ e. plain (eqb-true code tabs_code e)) single
  where
    of_tests : (a b : Bool) → ¬ (a ≡ true) → b ≡ false → cond a None (cond b (toggle_value (values_at layers code))
        (last_or None (values_at layers code))) ≡ last_or None (values_at layers code)
    of_tests true b h e = absurd (h refl)
    of_tests false true h e = cc
    of_tests false false h e = refl

pub last_decides : LastLayerDecides
last_decides layers code plain single = record {
  set = λ front back layer value is there none.
      let f : Properties → Option (List ℕ) = λ m. get m code in
      last_value layers code plain single
      ∙ (ap (λ l. last_or None (values_at l code)) is
      ∙ (ap (last_or None) (filter_map-append f front (layer ∷ back))
      ∙ (ap (λ o. last_or None (values_at front code ++ cons_option o (values_at back code))) there
      ∙ (ap (λ vs. last_or None (values_at front code ++ value ∷ vs)) (no_values code back none)
      ∙ last_of_more None (values_at front code) value))));
  none = λ all. last_value layers code plain single ∙ ap (last_or None) (no_values code layers all);
}
