-- The last item goes to the front of the next block.
use Rattle.std.proofs.Common.{◌≡◌, ◌+◌, ◌-◌, ◌<◌, ◌∙◌, length, ap, arith}
use Rattle.chunked_list.proofs.UnitLemmas.{length_cut}
use Rattle.chunked_list.proofs.JoinLemmas.{give_one}
use Rattle.chunked_list.proofs.block.Block.move_tail.Goals as goal

pub loop-turn-preserved : goal.loop-turn-preserved
loop-turn-preserved g c =
    let last = c.len-last.result - 1 in
    let mine = c.loop-turn.self in
    let end : last + 1 ≡ length mine = omega (
      arith,
      c.len-last.ensures.value,
      c.loop-turn.invariant.mine,
      c.requires.count,
    ) in
    let low : last < length mine = omega arith in
    let less = length_cut mine c.remove-item.new.self last low c.remove-item.ensures.items in
    let more = ap length c.insert.ensures in
    record {
      joined = give_one mine c.loop-turn.next c.remove-item.new.self c.insert.new.self c.remove-item.result last end
          c.remove-item.ensures.value c.remove-item.ensures.items c.insert.ensures
          ∙ c.loop-turn.invariant.joined;
      mine = omega (arith, less, c.loop-turn.invariant.mine);
      other = omega (arith, more, c.loop-turn.invariant.other);
    }
