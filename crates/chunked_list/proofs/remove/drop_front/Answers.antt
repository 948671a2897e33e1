-- The first items go, block by block.
use Rattle.std.proofs.Common.{◌≡◌, ◌+◌, ◌-◌, ◌<◌, ◌≤◌, ◌∙◌, List, [], length, take, drop, ap, arith}
use Rattle.std.proofs.Common.{length-drop}
use Rattle.std.specs.List.{splice}
use Rattle.chunked_list.specs.Blocks.{joined, total_units, block_at}
use Rattle.chunked_list.proofs.JoinLemmas.{units_of_block}
use Rattle.chunked_list.proofs.RemoveLemmas.{dropped_out, dropped_cut, dropped_all, left_out, units_out, take_out_front}
use Rattle.chunked_list.proofs.RemoveLemmas.{length_out}
use Rattle.chunked_list.proofs.ShortLemmas.{but_set, but_out, but_wider}
use Rattle.chunked_list.proofs.remove.drop_front.Goals as goal

pub cut-requires-clause-units : goal.cut-requires-clause-units
cut-requires-clause-units g c =
    let units = g.T.Measured.units in
    let now = c.loop-turn.row.blocks in
    let there : c.args.block < length now = omega (arith, c.loop-turn.invariant.long, c.count-turn-end.ensures) in
    omega (
      arith,
      units_of_block units now c.args.block there,
      c.loop-turn.invariant.units,
      c.requires.units,
    )

pub returns-then-left-len-clause-back : goal.returns-then-left-len-clause-back
returns-then-left-len-clause-back g c =
    let old = c.args.row.now.blocks in
    let now = c.loop-turn.row.blocks in
    let b = c.args.block in
    let there : b < length now = omega (arith, c.loop-turn.invariant.long, c.count-turn-end.ensures) in
    dropped_cut now c.cut.new.self.blocks b c.loop-turn.left (drop c.args.count (joined (drop b old))) there
    (omega (arith, c.len-len.ensures.value)) c.loop-turn.invariant.back c.cut.ensures.blocks

pub returns-then-left-len-clause-sized : goal.returns-then-left-len-clause-sized
returns-then-left-len-clause-sized g c = λ full from low is.
    let now = c.loop-turn.row.blocks in
    let b = c.args.block in
    let there : b < length now = omega (arith, c.loop-turn.invariant.long, c.count-turn-end.ensures) in
    let now_is = c.loop-turn.invariant.sized full from low is in
    let rest = splice (block_at now b) 0 c.loop-turn.left [] in
    let long : length rest ≤ 128 = omega (
      arith,
      length-drop c.loop-turn.left (block_at now b),
      c.len-len.ensures.value,
      c.len-len.ensures.most,
    ) in
    but_set now c.cut.new.self.blocks b rest full from b (b + 1) now_is c.cut.ensures.blocks there long low
    (omega arith) (λ more. absurd (omega arith))

pub loop-turn-preserved : goal.loop-turn-preserved
loop-turn-preserved g c =
    let old = c.args.row.now.blocks in
    let now = c.loop-turn.row.blocks in
    let new = c.take_out.new.self.blocks in
    let b = c.args.block in
    let left = c.loop-turn.left in
    let len = c.len-len.result in
    let invariant = c.loop-turn.invariant in
    let there : b < length now = omega (arith, invariant.long, c.count-turn-end.ensures) in
    let out : new ≡ splice now b (b + 1) [] = c.take_out.ensures.blocks in
    let le : len ≤ left = omega (arith, c.if-left-len.false) in
    let less = length_out now b there in
    record {
      front = ap (λ (t : List (List g.row.T.Denot)). take b t) out ∙ take_out_front now b there ∙ invariant.front;
      back = ap (λ (t : List (List g.row.T.Denot)). drop (left - len) (joined (drop b t))) out
          ∙ dropped_out now b left len (drop c.args.count (joined (drop b old))) there c.len-len.ensures.value le
          invariant.back;
      low = omega (
        arith,
        ap (λ (t : List (List g.row.T.Denot)). length (joined (drop b t))) out,
        left_out now b left len there c.len-len.ensures.value invariant.low,
      );
      long = omega (arith, ap length out, less, invariant.long);
      spare = c.take_out.ensures.spare ∙ invariant.spare;
      units = omega (
        arith,
        ap (λ (t : List (List g.row.T.Denot)). total_units g.T.Measured.units (joined t)) out,
        units_out g.T.Measured.units now b there,
        invariant.units,
      );
      sized = λ full from low is.
          but_out now new b full from b b (invariant.sized full from low is) out there low (omega arith)
          (λ k high small. absurd (omega arith));
    }

pub returns-clause-back : goal.returns-clause-back
returns-clause-back g c =
    let old = c.args.row.now.blocks in
    let b = c.args.block in
    let past : length c.loop-turn.row.blocks ≤ b =
    omega (arith, c.loop-turn.invariant.long, c.count-turn-end.ensures) in
    dropped_all c.loop-turn.row.blocks b c.loop-turn.left (drop c.args.count (joined (drop b old))) past
    c.loop-turn.invariant.low c.loop-turn.invariant.back

pub returns-clause-sized : goal.returns-clause-sized
returns-clause-sized g c = λ full from low is.
    but_wider c.loop-turn.row.blocks full from c.args.block (c.args.block + 1)
    (c.loop-turn.invariant.sized full from low is) (omega arith)
