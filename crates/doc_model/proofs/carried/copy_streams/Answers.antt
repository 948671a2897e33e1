-- The copy is the front of the list, which is a list of streams.
use Rattle.std.proofs.Common.{rules, sym, subst, ◌+◌, ◌∙◌, ◌<◌, length}
use Rattle.cfb_streams.specs.Contents.{AreStreams}
use Rattle.doc_model.proofs.StreamLemmas.{next_stream, AreStreams-take}
use Rattle.doc_model.proofs.carried.copy_streams.Goals as goal

pub add-requires : goal.add-requires
add-requires c =
    let within : c.loop-i.i < length c.args.streams.now = search rules in
    subst AreStreams (sym (next_stream _ _ _ _ _ c.loop-i.invariant within c.name.ensures c.bytes.ensures))
    (AreStreams-take (c.loop-i.i + 1) c.args.streams.now c.count-count.ensures.ordered)

pub loop-i-preserved : goal.loop-i-preserved
loop-i-preserved c =
    let within : c.loop-i.i < length c.args.streams.now = search rules in
    c.in_ok-add.ensures.ok ∙ next_stream _ _ _ _ _ c.loop-i.invariant within c.name.ensures c.bytes.ensures
