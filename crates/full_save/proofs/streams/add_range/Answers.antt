use Rattle.std.proofs.Common.{◌<◌, ◌++◌, List, [], ◌∷◌, length, ap, sym, subst, ◌∙◌, arith}
use Rattle.std.specs.Prelude.{slice_range}
use Rattle.cfb_streams.specs.Contents.{NamedBytes, AreStreams}
use Rattle.full_save.proofs.PlaceLemmas.{stream_is, add_next, behind_next}
use Rattle.full_save.proofs.streams.add_range.Goals as goal

pub add-requires : goal.add-requires
add-requires c =
    let others = c.args.carried.now in
    let i = c.loop-i.i in
    let within = c.requires.within in
    let test = c.loop-i-test.true in
    let low = c.loop-i.auto.i in
    let below : i < length others = omega arith in
    let it : NamedBytes = record { name = c.name.result.now; bytes = c.bytes.result.now } in
    let is = stream_is others i it c.name.result.now c.bytes.result.now below c.name.ensures c.bytes.ensures in
    let next = add_next c.args.streams.now others c.args.from i c.args.to it low test within c.requires.streams in
    subst (λ (front : List NamedBytes). AreStreams (front ++ it ∷ [])) (sym c.loop-i.invariant)
    (subst (λ (x : NamedBytes). AreStreams ((c.args.streams.now ++ slice_range others c.args.from i) ++ x ∷ []))
    (sym is) next)

pub loop-i-preserved : goal.loop-i-preserved
loop-i-preserved c =
    let others = c.args.carried.now in
    let i = c.loop-i.i in
    let within = c.requires.within in
    let test = c.loop-i-test.true in
    let low = c.loop-i.auto.i in
    let below : i < length others = omega arith in
    let it : NamedBytes = record { name = c.name.result.now; bytes = c.bytes.result.now } in
    let is = stream_is others i it c.name.result.now c.bytes.result.now below c.name.ensures c.bytes.ensures in
    c.in_ok-add.ensures.ok
    ∙ (ap (λ (front : List NamedBytes). front ++ it ∷ []) c.loop-i.invariant
    ∙ (ap (λ (x : NamedBytes). (c.args.streams.now ++ slice_range others c.args.from i) ++ x ∷ []) is
    ∙ behind_next c.args.streams.now others c.args.from i it low below))
