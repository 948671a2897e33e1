-- The unit is in this block, or behind it.
use Rattle.std.proofs.Common.{◌≡◌, ◌+◌, ◌<◌, ◌∙◌, List, [], length, map, sym, ap, subst, arith, rules}
use Rattle.std.specs.Vec.{vec_len}
use Rattle.std.proofs.lemmas.List.{get_or_read}
use Rattle.std.proofs.lemmas.Option.{slice_get_within}
use Rattle.chunked_list.specs.Blocks.{total_units, block_at, BlockRow, IsSpotOf}
use Rattle.chunked_list.proofs.UnitLemmas.{units-nil}
use Rattle.chunked_list.proofs.JoinLemmas.{joined-nil, sum_told, found_here, units_more_blocks, joined_more_length}
use Rattle.chunked_list.proofs.JoinLemmas.{joined-take-le, block_read}
use Rattle.chunked_list.proofs.row.Row.find.Goals as goal

pub loop-block-init : goal.loop-block-init
loop-block-init g c =
    let none = joined-nil {T = g.row.T.Denot} in
    record {
      here = omega (arith, ap (total_units g.T.Measured.units) none, units-nil g.T.Measured.units);
      counted = sym (ap length none);
      steps = omega arith;
    }

pub find-spot-requires : goal.find-spot-requires
find-spot-requires g c =
    let units = g.T.Measured.units in
    let b = c.loop-block.block in
    let blocks = c.self.inside.blocks.items in
    let len : vec_len c.self.inside.blocks ≡ length blocks = search rules in
    let low : b < length blocks = omega (arith, c.len-block-end.ensures) in
    let told = sum_told units blocks c.self.inside.sums.sums b c.get-units.result c.self.invariant.each
    c.get-units.ensures.found in
    let read : c.index.result.now ≡ block_at blocks b = get_or_read blocks b c.index.result.now low c.index.ensures
    [] in
    omega (arith, told, ap (total_units units) read, c.if-left-units.true)

pub overflow_add-result : goal.overflow_add-result
overflow_add-result g c =
    let units = g.T.Measured.units in
    let b = c.loop-block.block in
    let blocks = c.self.inside.blocks.items in
    let now = ap (λ (r : BlockRow g.row.T.Denot). r.blocks) c.self.view_is in
    let len : vec_len c.self.inside.blocks ≡ length blocks = search rules in
    let less : b < length c.args.self.now.blocks = omega (arith, ap length now, c.len-block-end.ensures) in
    let read = block_read blocks c.args.self.now.blocks b c.index.result.now now less c.index.ensures in
    let spot = c.find-spot.ensures.spot in
    omega (
      arith,
      ap length read.1,
      slice_get_within c.index.result.now c.find-spot.result.item spot.item spot.there,
      c.loop-block.invariant.counted,
      joined_more_length c.args.self.now.blocks b less,
      joined-take-le c.args.self.now.blocks (b + 1),
      c.requires.few,
    )

pub returns-then-left-units-clause-found : goal.returns-then-left-units-clause-found
returns-then-left-units-clause-found g c =
    let units = g.T.Measured.units in
    let b = c.loop-block.block in
    let blocks = c.self.inside.blocks.items in
    let now = ap (λ (r : BlockRow g.row.T.Denot). r.blocks) c.self.view_is in
    let len : vec_len c.self.inside.blocks ≡ length blocks = search rules in
    let less : b < length c.args.self.now.blocks = omega (arith, ap length now, c.len-block-end.ensures) in
    let read = block_read blocks c.args.self.now.blocks b c.index.result.now now less c.index.ensures in
    found_here units c.args.self.now.blocks b c.args.place c.loop-block.left c.find-spot.result.item
    c.find-spot.result.within
    c.loop-block.before less c.loop-block.invariant.counted c.loop-block.invariant.here
    (subst (λ (t : List g.row.T.Denot). IsSpotOf units t c.loop-block.left
    (record { item = c.find-spot.result.item; within = c.find-spot.result.within })) read.1 c.find-spot.ensures.spot)

pub overflow_add-before : goal.overflow_add-before
overflow_add-before g c =
    let b = c.loop-block.block in
    let blocks = c.self.inside.blocks.items in
    let now = ap (λ (r : BlockRow g.row.T.Denot). r.blocks) c.self.view_is in
    let len : vec_len c.self.inside.blocks ≡ length blocks = search rules in
    let less : b < length c.args.self.now.blocks = omega (arith, ap length now, c.len-block-end.ensures) in
    let read = block_read blocks c.args.self.now.blocks b c.index-in-loop-block.result.now now less
    c.index-in-loop-block.ensures in
    omega (
      arith,
      ap length read.1,
      c.len-before.ensures.value,
      c.loop-block.invariant.counted,
      joined_more_length c.args.self.now.blocks b less,
      joined-take-le c.args.self.now.blocks (b + 1),
      c.requires.few,
    )

pub loop-block-preserved : goal.loop-block-preserved
loop-block-preserved g c =
    let units = g.T.Measured.units in
    let b = c.loop-block.block in
    let blocks = c.self.inside.blocks.items in
    let now = ap (λ (r : BlockRow g.row.T.Denot). r.blocks) c.self.view_is in
    let len : vec_len c.self.inside.blocks ≡ length blocks = search rules in
    let less : b < length c.args.self.now.blocks = omega (arith, ap length now, c.len-block-end.ensures) in
    let told = sum_told units c.args.self.now.blocks c.self.inside.sums.sums b c.get-units.result
    (c.self.invariant.each ∙ ap (map (total_units units)) now) c.get-units.ensures.found in
    let read = block_read blocks c.args.self.now.blocks b c.index-in-loop-block.result.now now less
    c.index-in-loop-block.ensures in
    record {
      here = omega (
        arith,
        told,
        c.if-left-units.false,
        c.loop-block.invariant.here,
        units_more_blocks units c.args.self.now.blocks b less,
      );
      counted = omega (
        arith,
        ap length read.1,
        c.len-before.ensures.value,
        c.loop-block.invariant.counted,
        joined_more_length c.args.self.now.blocks b less,
      );
      steps = omega (arith, c.get-units.ensures.step, c.loop-block.invariant.steps);
    }
