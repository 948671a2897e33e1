use Rattle.std.proofs.Common.{◌≡◌, ◌++◌, ◌+◌, ◌*◌, slice_range, refl, arith, ap, ◌∙◌}
use Rattle.std.specs.List.{flat_map, range_with_len}
use Rattle.cfb_layout.proofs.Public.{row_step}
use Rattle.cfb_in_place.specs.Sources.{entry_after, four_entries}
use Rattle.cfb_in_place.proofs.sectors.push_directory.Goals as goal

pub loop-k-preserved : goal.loop-k-preserved
loop-k-preserved c =
    row_step (λ k. entry_after c.args.grown.now c.args.table.now (c.args.first + k) (slice_range c.args.bytes.now
    (128 * k) (128 * k + 128))) c.args.out.now c.loop-k.out c.push_entry.new.out 0 c.loop-k.k c.loop-k.k (c.loop-k.k +
    1) c.loop-k.invariant c.in_ok-push_entry.ensures (omega arith) refl

pub returns : goal.returns
unfolding four_entries
returns c =
    let end : c.loop-k.k ≡ 4 = (let past = c.loop-k-test.false in let low = c.loop-k.auto.k-end in omega arith) in
    c.loop-k.invariant ∙ ap (λ n. c.args.out.now ++ flat_map (λ k. entry_after c.args.grown.now c.args.table.now
    (c.args.first + k) (slice_range c.args.bytes.now (128 * k) (128 * k + 128))) (range_with_len 0 n)) end
