use Rattle.std.proofs.Common.{Some, map, ap, ◌∙◌}
use Rattle.serde_json.specs.View.{items_of, view}
use Rattle.edit_script.proofs.ScriptLemmas.{script_of_bytes}
use Rattle.edit_script.proofs.reading.read_script.Goals as goal

pub returns : goal.returns
returns c =
    script_of_bytes c.args.bytes.now (view c.in_ok-value.value) (map view c.as_slice.result.now) c.in_ok-value.ensures
    (ap (λ values. Some (items_of (map view values))) c.as_slice.ensures.value ∙ c.in-Some.ensures) c.script_of.result
    c.script_of.ensures
