use Rattle.std.proofs.Common.{◌<◌, ◌++◌, length, get_or, refl, sym, ap, ◌∙◌, arith}
use Rattle.cfb_layout.specs.Sectors.{padded_to_unit}
use Rattle.cfb_layout.specs.Layout.{no_stream, large_part}
use Rattle.cfb_layout.proofs.WritingLemmas.{flat_step, bytes_are}
use Rattle.cfb_layout.proofs.writing.push_large.Goals as goal

pub loop-i-preserved : goal.loop-i-preserved
loop-i-preserved c =
    let streams = c.args.streams.now in
    let len = c.count-i-end.ensures.len in
    let end = c.loop-i-test.true in
    let low : c.loop-i.i < length streams = omega arith in
    let bytes = bytes_are streams c.loop-i.i c.bytes.result.now low c.bytes.ensures in
    let part = c.large_part-part.ensures ∙ ap large_part (sym bytes) in
    flat_step (λ stream. padded_to_unit 512 0 (large_part stream.bytes)) c.args.out.now c.loop-i.out
    c.push_padded.new.out
    streams c.loop-i.i (get_or streams c.loop-i.i no_stream) no_stream
    c.loop-i.invariant (c.in_ok-push_padded.ensures ∙ ap (λ xs. c.loop-i.out ++ padded_to_unit 512 0 xs) part) low refl
