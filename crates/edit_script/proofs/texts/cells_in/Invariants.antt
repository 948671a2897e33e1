use Rattle.std.proofs.Common.{◌≡◌, ◌++◌, drop}
use Rattle.std.specs.Option.{option_map}
use Rattle.serde_json.specs.View.{items_view, view}
use Rattle.edit_script.specs.Json.{each_of}
use Rattle.edit_script.specs.Values.{cell_texts_of, string_units}
use Rattle.edit_script.proofs.texts.cells_in.Given as goal

abbrev pub invariant-loop-value : goal.invariant-loop-value
invariant-loop-value l = cell_texts_of (view l.value) ≡ option_map (λ more. l.cells ++ more) (each_of string_units
    (items_view (drop l.value-index l.value-items)))
