use Rattle.std.proofs.Common.{◌≡◌, ◌-◌, ◌*◌, ◌<◌, ◌++◌, length, get_or, sum, refl, sym, ap, ◌∙◌, arith}
use Rattle.std.specs.List.{flat_map}
use Rattle.std.proofs.lemmas.List.{take_all}
use Rattle.cfb_layout.specs.Sectors.{units_for, padded_to_unit}
use Rattle.cfb_layout.specs.Counts.{mini_counts}
use Rattle.cfb_layout.specs.Layout.{no_stream, small_part, lengths_of}
use Rattle.cfb_layout.proofs.WritingLemmas.{flat_step, bytes_are}
use Rattle.cfb_layout.proofs.JoinLemmas.{mini_stream_join}
use Rattle.cfb_layout.proofs.writing.push_mini_stream.Goals as goal

pub loop-i-preserved : goal.loop-i-preserved
loop-i-preserved c =
    let streams = c.args.streams.now in
    let len = c.count-i-end.ensures.len in
    let end = c.loop-i-test.true in
    let low : c.loop-i.i < length streams = omega arith in
    let bytes = bytes_are streams c.loop-i.i c.bytes.result.now low c.bytes.ensures in
    let part = c.small_part-part.ensures ∙ ap small_part (sym bytes) in
    flat_step (λ stream. padded_to_unit 64 0 (small_part stream.bytes)) c.args.out.now c.loop-i.out
    c.push_padded.new.out
    streams c.loop-i.i (get_or streams c.loop-i.i no_stream) no_stream
    c.loop-i.invariant (c.in_ok-push_padded.ensures ∙ ap (λ xs. c.loop-i.out ++ padded_to_unit 64 0 xs) part) low refl

pub returns : goal.returns
returns c =
    let streams = c.args.streams.now in
    let len = c.count-i-end.ensures.len in
    let end = c.loop-i-test.false in
    let all = c.loop-i.invariant ∙ ap (λ xs. c.args.out.now ++ flat_map (λ stream. padded_to_unit 64 0
    (small_part stream.bytes)) xs) (take_all c.loop-i.i streams (omega arith)) in
    let total : c.total.result ≡ sum (mini_counts (lengths_of streams)) =
    c.total.ensures ∙ (ap sum c.minis.ensures ∙ ap (λ lengths. sum (mini_counts lengths)) c.requires) in
    let rest = c.rest_of.ensures.is ∙ ap (λ n. units_for 512 (64 * n) * 512 - 64 * n) total in
    mini_stream_join streams c.rest_of.result c.args.out.now c.loop-i.out c.push_zeros.new.out all
    c.in_ok-push_zeros.ensures rest
