use Rattle.std.proofs.Common.{◌≡◌, ◌++◌, length}
use Rattle.std.specs.List.{flat_map}
use Rattle.std.specs.FinMap.{entries}
use Rattle.doc_show.specs.Settings.{property_text}
use Rattle.doc_show.proofs.settings.push_properties.Given as goal

abbrev pub invariant-loop-code : goal.invariant-loop-code
invariant-loop-code l = l.text ++ flat_map property_text l.left ≡ l.initial.text ++ flat_map property_text (entries
    l.map)

abbrev pub decreases-loop-code : goal.decreases-loop-code
decreases-loop-code l = length l.left
