use Rattle.std.proofs.Common.{◌≡◌, ℕ, ◌<◌}
use Rattle.std.specs.Prelude.{slice_get, Some}
use Rattle.cfb_streams.specs.Contents.{NamedBytes}
use Rattle.doc_model.specs.Carried.{IsCarriedName}
use Rattle.json_doc.proofs.carried_reading.have_carried_names.Given as goal

abbrev pub invariant-loop-i : goal.invariant-loop-i
invariant-loop-i l =
    (k : ℕ) (stream : NamedBytes) → k < l.i → slice_get l.streams k ≡ Some stream → IsCarriedName stream.name
