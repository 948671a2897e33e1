use Rattle.std.proofs.Common.{◌≡◌, ◌<◌, length, sum, sym, ap, ◌∙◌, arith}
use Rattle.std.proofs.lemmas.List.{take_all}
use Rattle.std.proofs.lemmas.List.Sums.{sum-map}
use Rattle.cfb_layout.specs.Layout.{no_stream, lengths_of}
use Rattle.cfb_layout.proofs.WritingLemmas.{map_step, bytes_are}
use Rattle.cfb_layout.proofs.writing.lengths_of.Goals as goal

pub loop-i-preserved : goal.loop-i-preserved
loop-i-preserved c =
    let streams = c.args.streams.now in
    let len = c.count-count.ensures.len in
    let end = c.loop-i-test.true in
    let low : c.loop-i.i < length streams = omega arith in
    map_step (λ stream. length stream.bytes) c.loop-i.lengths.items c.push.new.self.items streams c.loop-i.i
    (length c.bytes-bytes.result.now) no_stream
    c.loop-i.invariant c.in_ok-push.ensures.items low (ap length (sym (bytes_are streams c.loop-i.i
    c.bytes-bytes.result.now low c.bytes-bytes.ensures)))

pub returns-clause-few : goal.returns-clause-few
returns-clause-few c =
    let streams = c.args.streams.now in
    let len = c.count-count.ensures.len in
    let end = c.loop-i-test.false in
    let total = c.count-count.ensures.ordered.total in
    let whole = take_all c.loop-i.i streams (omega arith) in
    let are : c.loop-i.lengths.items ≡ lengths_of streams = c.loop-i.invariant ∙ ap (λ xs. lengths_of xs) whole in
    let same = ap sum are ∙ sum-map (λ stream. length stream.bytes) streams in
    omega arith
