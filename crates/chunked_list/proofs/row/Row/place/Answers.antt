-- The place is in this block, or behind it.
use Rattle.std.proofs.Common.{◌≡◌, ℕ, ◌+◌, ◌-◌, ◌<◌, length, take, ap, arith, rules}
use Rattle.std.specs.Vec.{vec_len}
use Rattle.chunked_list.specs.Blocks.{joined, BlockRow}
use Rattle.chunked_list.proofs.JoinLemmas.{joined-nil, joined_more_length, last_block, block_read}
use Rattle.chunked_list.proofs.row.Row.place.Goals as goal

pub loop-block-init : goal.loop-block-init
loop-block-init g c = let e = ap length (joined-nil {T = g.row.T.Denot}) in omega (arith, e)

pub loop-block-preserved : goal.loop-block-preserved
loop-block-preserved g c =
    let b = c.loop-block.block in
    let blocks = c.self.inside.blocks.items in
    let now = ap (λ (r : BlockRow g.row.T.Denot). r.blocks) c.self.view_is in
    let len : vec_len c.self.inside.blocks ≡ length blocks = search rules in
    let less : b < length c.args.self.now.blocks = omega (arith, ap length now, c.len-last.ensures) in
    let read = block_read blocks c.args.self.now.blocks b c.index.result.now now less c.index.ensures in
    omega (
      arith,
      ap length read.1,
      c.len-len.ensures.value,
      c.if-within-len.false,
      c.loop-block.invariant,
      joined_more_length c.args.self.now.blocks b less,
    )

pub returns-clause-place : goal.returns-clause-place
returns-clause-place g c =
    let blocks = c.args.self.now.blocks in
    let now = ap (λ (r : BlockRow g.row.T.Denot). length r.blocks) c.self.view_is in
    let len : vec_len c.self.inside.blocks ≡ length c.self.inside.blocks.items = search rules in
    let last = c.len-last.result - 1 in
    let end : length blocks ≡ last + 1 = omega (arith, now, c.len-last.ensures, c.requires.some) in
    let same : c.loop-block.block ≡ last = omega arith in
    let here : length (joined (take last blocks)) + c.loop-block.within ≡ c.args.i =
    omega (arith, ap (λ (n : ℕ). length (joined (take n blocks))) same, c.loop-block.invariant) in
    record {
      in_block = record {
        there = omega arith;
        inside = omega (arith, last_block blocks last end, here, c.requires.within);
      };
      here = here;
    }

pub returns-clause-item : goal.returns-clause-item
returns-clause-item g c = λ low.
    let blocks = c.args.self.now.blocks in
    let now = ap (λ (r : BlockRow g.row.T.Denot). length r.blocks) c.self.view_is in
    let len : vec_len c.self.inside.blocks ≡ length c.self.inside.blocks.items = search rules in
    let last = c.len-last.result - 1 in
    let end : length blocks ≡ last + 1 = omega (arith, now, c.len-last.ensures, c.requires.some) in
    let same : c.loop-block.block ≡ last = omega arith in
    let before = ap (λ (n : ℕ). length (joined (take n blocks))) same in
    omega (arith, last_block blocks last end, before, c.loop-block.invariant, low)
