use Rattle.std.proofs.Common.{◌≡◌}
use Rattle.serde_json.specs.View.{members_view, view}
use Rattle.edit_script.specs.Values.{properties_of, properties_put}
use Rattle.edit_script.proofs.settings.properties_in.Given as goal

abbrev pub invariant-loop-key : goal.invariant-loop-key
invariant-loop-key l = properties_of (view l.value) ≡ properties_put (members_view l.key-iterator) l.draft
