-- The item is in this block, or behind it.
use Rattle.std.proofs.Common.{◌≡◌, ◌<◌, length, ap, arith, rules}
use Rattle.std.specs.Vec.{vec_len}
use Rattle.chunked_list.specs.Blocks.{BlockRow}
use Rattle.chunked_list.proofs.JoinLemmas.{joined_more_length, block_read}
use Rattle.chunked_list.proofs.row.Row.reach.Goals as goal

pub loop-block-init : goal.loop-block-init
loop-block-init g c = record {
  before = c.mark_before-from.ensures.at.before;
  ahead = c.mark_before-from.ensures.ahead;
}

pub loop-block-preserved : goal.loop-block-preserved
loop-block-preserved g c =
    let b = c.loop-block.block in
    let blocks = c.self.inside.blocks.items in
    let now = ap (λ (r : BlockRow g.row.T.Denot). r.blocks) c.self.view_is in
    let len : vec_len c.self.inside.blocks ≡ length blocks = search rules in
    let less : b < length c.args.self.now.blocks = omega (arith, ap length now) in
    let read = block_read blocks c.args.self.now.blocks b c.index.result.now now less c.index.ensures in
    record {
      before = omega (
        arith,
        ap length read.1,
        c.len-len.ensures.value,
        c.loop-block.invariant.before,
        joined_more_length c.args.self.now.blocks b less,
      );
      ahead = omega (arith, c.if-i-before.false, c.loop-block.invariant.ahead);
    }
