-- A stream that is carried comes next.
use Rattle.std.proofs.Common.{◌<◌, ◌++◌, [], ◌∷◌, length, sym, ap, ◌∙◌, arith}
use Rattle.doc_read.proofs.StreamLemmas.{next-are_streams, carried-next, carried-skip}
use Rattle.doc_read.proofs.carried.copy_streams.Goals as goal
use Rattle.doc_read.proofs.carried.copy_streams.Goals.{then-is_carried+in_ok-add, else-is_carried}

pub add-requires : goal.add-requires
add-requires c =
    let within : c.loop-i.i < length c.args.container.now.streams =
    omega (arith, c.loop-i-test.true, c.count-count.ensures) in
    next-are_streams c.args.container.now c.loop-i.streams c.loop-i.i c.name-name.result.now c.bytes.result.now
    c.requires c.loop-i.invariant within c.name-name.ensures c.bytes.ensures (sym c.if-is_carried.ensures)

pub loop-i-preserved : goal.loop-i-preserved
loop-i-preserved c =
    let streams = c.args.container.now.streams in
    let name = c.name-name.result.now in
    let within : c.loop-i.i < length c.args.container.now.streams =
    omega (arith, c.loop-i-test.true, c.count-count.ensures) in
    elim c.if-is_carried.branch [
      | then-is_carried+in_ok-add w ↦
          w.streams-is
          ∙ (w.in_ok-add.ensures.ok
          ∙ (ap (λ xs. xs ++ (record { name = c.name-name.result.now; bytes = w.bytes.result.now }) ∷ [])
          c.loop-i.invariant
          ∙ carried-next streams c.loop-i.i name w.bytes.result.now within c.name-name.ensures w.bytes.ensures
          (sym w.if-is_carried.ensures)))
      | else-is_carried w ↦ w.streams-is ∙ (c.loop-i.invariant ∙ carried-skip streams c.loop-i.i name within
          c.name-name.ensures (sym w.if-is_carried.ensures))
    ]
