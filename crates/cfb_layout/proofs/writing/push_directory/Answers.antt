use Rattle.std.proofs.Common.{◌≡◌, ◌+◌, ◌*◌, ◌++◌, length, refl, ap, ◌∙◌, arith}
use Rattle.std.specs.List.{flat_map, range_with_len}
use Rattle.cfb_layout.specs.Entries.{entry_bytes}
use Rattle.cfb_layout.specs.Sectors.{units_for}
use Rattle.cfb_layout.specs.Layout.{directory_entry, directory_bytes}
use Rattle.cfb_layout.proofs.CountLemmas.{length-lengths_of}
use Rattle.cfb_layout.proofs.WritingLemmas.{row_step}
use Rattle.cfb_layout.proofs.writing.push_directory.Goals as goal

pub loop-k-preserved : goal.loop-k-preserved
loop-k-preserved c =
    row_step (λ k. entry_bytes (directory_entry c.args.streams.now c.args.clsid.now k)) c.args.out.now c.loop-k.out
    c.push_directory_entry.new.out 0 c.loop-k.k c.loop-k.k (c.loop-k.k + 1)
    c.loop-k.invariant c.in_ok-push_directory_entry.ensures (omega arith) refl

pub returns : goal.returns
unfolding directory_bytes
returns c =
    let streams = c.args.streams.now in
    let len = c.count.ensures.is in
    let same = ap length c.requires in
    let n = length-lengths_of streams in
    let low = c.loop-k.auto.k-end in
    let end = c.loop-k-test.false in
    let all : c.loop-k.k ≡ 4 * units_for 4 (length streams + 1) = omega arith in
    c.loop-k.invariant ∙ ap (λ m. c.args.out.now ++ flat_map (λ k. entry_bytes (directory_entry streams
    c.args.clsid.now k)) (range_with_len 0 m)) all
