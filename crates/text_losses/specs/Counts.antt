-- The codes of lists: how many lists have a code that does nothing, or one again of which the last counts.
use Rattle.std.specs.Prelude.{ℕ, ◌==◌, Bool, ◌||◌, not, List, [], ◌∷◌, ◌++◌, nat_lt, if◌then◌else◌}
use Rattle.std.specs.List.{list_any, count_by, flat_map, range_with_len}
use Rattle.sprm_table.specs.Sprm.{Prl}
use Rattle.text_losses.specs.declared.features.ListKind.{ListKind}
use Rattle.text_losses.specs.declared.features.TextFeature.{TextFeature}
use Rattle.text_losses.specs.declared.features.TextFeature.TheVariants.{Skipped, Repeated}
use Rattle.text_losses.specs.Features.{is_kept_code, is_added}

-- an entry of the list has the code; two of them have it
abbrev pub has_code : ℕ → List Prl → Bool
has_code code prls = list_any (λ prl. prl.0 == code) prls

abbrev pub has_again : ℕ → List Prl → Bool
has_again code prls = nat_lt 1 (count_by (λ prl. prl.0 == code) prls)

-- how many of the lists
abbrev pub lists_with : ℕ → List (List Prl) → ℕ
lists_with code lists = count_by (has_code code) lists

abbrev pub lists_again : ℕ → List (List Prl) → ℕ
lists_again code lists = count_by (has_again code) lists

-- a code that this profile has no meaning for in such lists, where a list has it
abbrev pub skipped_code_of : ListKind → List (List Prl) → ℕ → List TextFeature
skipped_code_of kind lists code =
    if is_kept_code kind code || lists_with code lists == 0 then [] else Skipped kind code
    (lists_with code lists) ∷ []

-- a code of which the last counts, where a list has it again
abbrev pub repeated_code_of : ListKind → List (List Prl) → ℕ → List TextFeature
repeated_code_of kind lists code =
    if not (is_added code) || lists_again code lists == 0 then [] else Repeated kind code
    (lists_again code lists) ∷ []

-- all codes of lists of a kind, ascending
abbrev pub skipped_codes : ListKind → List (List Prl) → List TextFeature
skipped_codes kind lists = flat_map (skipped_code_of kind lists) (range_with_len 0 65536)

abbrev pub repeated_codes : ListKind → List (List Prl) → List TextFeature
repeated_codes kind lists = flat_map (repeated_code_of kind lists) (range_with_len 0 65536)
