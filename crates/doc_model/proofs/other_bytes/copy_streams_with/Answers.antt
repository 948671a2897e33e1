-- The copy is the front of the streams with other bytes, which are streams.
use Rattle.std.proofs.Common.{sym, subst, arith, ◌+◌, ◌∙◌, ◌<◌, length}
use Rattle.cfb_streams.specs.Contents.{AreStreams}
use Rattle.doc_model.specs.Carried.{with_bytes}
use Rattle.doc_model.proofs.StreamLemmas.{next_stream, AreStreams-take}
use Rattle.doc_model.proofs.WithBytesLemmas.{with_bytes-name, with_bytes-AreStreams, length-with_bytes}
use Rattle.doc_model.proofs.other_bytes.copy_streams_with.Goals as goal

pub add-requires : goal.add-requires
add-requires c =
    let all = with_bytes c.args.streams.now c.args.i c.args.bytes.now in
    let total = c.requires.room.total in
    let within : c.loop-k.k < length all = omega (
      arith,
      length-with_bytes c.args.streams.now c.args.i
          c.args.bytes.now,
    ) in
    let are = with_bytes-AreStreams c.args.streams.now c.args.i c.args.bytes.now c.count-count.ensures.ordered
    (omega arith) in
    subst AreStreams (sym (next_stream all _ _ _ _ c.loop-k.invariant within (with_bytes-name c.args.streams.now
    c.args.i
    c.args.bytes.now c.loop-k.k ∙ c.name.ensures)
    c.bytes_with-content.ensures))
    (AreStreams-take (c.loop-k.k + 1) all are)

pub loop-k-preserved : goal.loop-k-preserved
loop-k-preserved c =
    let all = with_bytes c.args.streams.now c.args.i c.args.bytes.now in
    let within : c.loop-k.k < length all = omega (
      arith,
      length-with_bytes c.args.streams.now c.args.i
          c.args.bytes.now,
    ) in
    c.in_ok-add.ensures.ok
    ∙ next_stream all _ _ _ _ c.loop-k.invariant within (with_bytes-name c.args.streams.now c.args.i
    c.args.bytes.now c.loop-k.k ∙ c.name.ensures)
    c.bytes_with-content.ensures
