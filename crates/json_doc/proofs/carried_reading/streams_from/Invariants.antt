use Rattle.std.proofs.Common.{map, take}
use Rattle.serde_json.specs.View.{view}
use Rattle.json_doc.specs.CarriedReading.{stream_of_value}
use Rattle.json_doc.proofs.ListLemmas.{AreGiven}
use Rattle.json_doc.proofs.carried_reading.streams_from.Given as goal

abbrev pub invariant-loop-value : goal.invariant-loop-value
invariant-loop-value l = AreGiven stream_of_value (map view (take l.value-index l.values)) l.streams
