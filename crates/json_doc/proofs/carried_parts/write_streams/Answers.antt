use Rattle.std.proofs.Common.{slice_get, arith}
use Rattle.doc_model.proofs.Public.{stream_of_parts}
use Rattle.json_doc.specs.CarriedParts.{stream_json}
use Rattle.json_doc.proofs.WrittenLemmas.{where_ok, next_placed, all_placed}
use Rattle.json_doc.proofs.carried_parts.write_streams.Goals as goal

pub loop-i-preserved : goal.loop-i-preserved
loop-i-preserved c =
    next_placed stream_json c.args.streams.now c.loop-i.i
    (record { name = c.name.result.now; bytes = c.bytes.result.now })
    (stream_of_parts (slice_get c.args.streams.now c.loop-i.i) c.name.result.now c.bytes.result.now c.name.ensures
    c.bytes.ensures) c.loop-i.invariant c.in_ok-push_comma.ensures c.in_ok-write_stream.ensures

pub returns : goal.returns
returns c =
    where_ok c.push-2.result (all_placed stream_json c.args.streams.now c.loop-i.i (omega (
      arith,
      c.count-i-end.ensures.len,
    )) c.loop-i.invariant) c.push-2.ensures.ok
