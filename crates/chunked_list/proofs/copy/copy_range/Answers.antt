-- A block more is copied.
use Rattle.std.proofs.Common.{◌≡◌, ◌+◌, ◌-◌, ◌<◌, ◌∙◌, [], length, sym, ap, arith}
use Rattle.chunked_list.specs.Blocks.{joined}
use Rattle.chunked_list.proofs.JoinLemmas.{joined-nil, joined_more_length, joined-take-le}
use Rattle.chunked_list.proofs.RangeLemmas.{range_nil}
use Rattle.chunked_list.proofs.BuildLemmas.{copied_more}
use Rattle.chunked_list.proofs.copy.copy_range.Goals as goal

pub loop-block-init : goal.loop-block-init
loop-block-init g c =
    let none = joined-nil {T = g.row.T.Denot} in
    record {
      items = c.in_ok-copy.ensures.items
          ∙ sym (range_nil (joined {T = g.row.T.Denot} []) c.args.first c.args.last none);
      before = sym (ap length none);
    }

pub overflow_add-before : goal.overflow_add-before
overflow_add-before g c =
    let b = c.loop-block.block in
    let blocks = c.args.row.now.blocks in
    let there : b < length blocks = omega (arith, c.count-block-end.ensures) in
    omega (
      arith,
      c.loop-block.invariant.before,
      c.len-before.ensures.value,
      joined_more_length blocks b there,
      joined-take-le blocks (b + 1),
      c.requires.few,
    )

pub loop-block-preserved : goal.loop-block-preserved
loop-block-preserved g c =
    let b = c.loop-block.block in
    let blocks = c.args.row.now.blocks in
    let before = c.loop-block.before in
    let lo = c.saturating_sub.result in
    let hi = c.saturating_sub-in-loop-block.result in
    let there : b < length blocks = omega (arith, c.count-block-end.ensures) in
    let is_lo : lo ≡ c.args.first - before = omega (arith, c.saturating_sub.ensures) in
    let is_hi : hi ≡ c.args.last - before = omega (arith, c.saturating_sub-in-loop-block.ensures) in
    record {
      items = copied_more blocks c.loop-block.copy.items c.copy.new.copy.items b c.args.first c.args.last before lo hi
          there c.requires.order c.loop-block.invariant.before is_lo is_hi c.loop-block.invariant.items
          c.in_ok-copy-2.ensures;
      before = omega (
        arith,
        c.loop-block.invariant.before,
        c.len-before.ensures.value,
        joined_more_length blocks b there,
      );
    }
