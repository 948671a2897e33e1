-- The sums are counted anew.
use Rattle.std.proofs.Common.{◌+◌, ◌∙◌, ◌∷◌, ◌++◌, List, [], length, take, drop, set, refl, ap, arith, length-set}
use Rattle.std.specs.List.{splice}
use Rattle.std.proofs.lemmas.List.{append-nil}
use Rattle.chunked_list.specs.Blocks.{total_units, block_at, BlockRow}
use Rattle.chunked_list.proofs.UnitLemmas.{numbers_set}
use Rattle.chunked_list.proofs.JoinLemmas.{block_read, units_parts, two_parts, splice_two}
use Rattle.chunked_list.proofs.row.Row.divide.Goals as goal

pub units-units-requires : goal.units-units-requires
units-units-requires g c =
    let now = ap (λ (r : BlockRow g.row.T.Denot). r.blocks) c.self.view_is in
    let old = c.index_mut-first.result.now in
    let block = block_at c.args.self.now.blocks c.args.block in
    let read = block_read c.self.inside.blocks.items c.args.self.now.blocks c.args.block old now c.requires.block
    c.index_mut-first.ensures.value in
    omega (
      arith,
      units_parts g.T.Measured.units block old c.args.fresh c.move_tail.new.self c.move_tail.new.next
          c.move_tail.ensures.joined
          c.requires.fresh read.1,
      c.requires.units,
    )

pub invariant_of-self : goal.invariant_of-self
invariant_of-self g c =
    let blocks = c.self.inside.blocks.items in
    let new = c.move_tail.new.self in
    record {
      each = numbers_set (total_units g.T.Measured.units) blocks (set blocks c.args.block new) new
          c.self.inside.sums.sums
          c.set.new.self.sums c.args.block c.units-units.result c.self.invariant.each c.units-units.ensures refl
          c.set.ensures.sums;
      room = omega (arith, length-set blocks c.args.block new, c.self.invariant.room);
      further = omega (arith, c.set.ensures.spare, c.self.invariant.further);
    }

pub insert-requires-clause-units : goal.insert-requires-clause-units
insert-requires-clause-units g c =
    let now = ap (λ (r : BlockRow g.row.T.Denot). r.blocks) c.self.view_is in
    let old = c.index_mut-first.result.now in
    let block = block_at c.args.self.now.blocks c.args.block in
    let read = block_read c.self.inside.blocks.items c.args.self.now.blocks c.args.block old now c.requires.block
    c.index_mut-first.ensures.value in
    omega (
      arith,
      units_parts g.T.Measured.units block old c.args.fresh c.move_tail.new.self c.move_tail.new.next
          c.move_tail.ensures.joined
          c.requires.fresh read.1,
      c.requires.units,
    )

pub returns-clause-blocks : goal.returns-clause-blocks
returns-clause-blocks g c =
    let blocks = c.self.inside.blocks.items in
    let b = c.args.block in
    let now = ap (λ (r : BlockRow g.row.T.Denot). r.blocks) c.self.view_is in
    let old = c.index_mut-first.result.now in
    let read = block_read blocks c.args.self.now.blocks b old now c.requires.block c.index_mut-first.ensures.value in
    let whole = c.move_tail.ensures.joined ∙ ap (λ (t : List g.row.T.Denot). old ++ t) c.requires.fresh ∙ append-nil old
    in
    let long = ap length read.1 in
    let parts = two_parts old c.move_tail.new.self c.move_tail.new.next 64 whole
    (omega (arith, long, c.move_tail.ensures.len, c.requires.full)) (omega (arith, long, c.requires.full)) in
    c.insert.ensures.blocks
    ∙ splice_two blocks b c.move_tail.new.self c.move_tail.new.next read.0
    ∙ ap (λ (x : List g.row.T.Denot). splice blocks b (b + 1) (x ∷ c.move_tail.new.next ∷ [])) parts.0
    ∙ ap (λ (x : List g.row.T.Denot). splice blocks b (b + 1) (take 64 old ∷ x ∷ [])) parts.1
    ∙ ap (λ (o : List g.row.T.Denot). splice blocks b (b + 1) (take 64 o ∷ drop 64 o ∷ [])) read.1
    ∙ ap (λ (t : List (List g.row.T.Denot)).
    splice t b (b + 1) (take 64 (block_at c.args.self.now.blocks b) ∷ drop 64 (block_at c.args.self.now.blocks b) ∷
    [])) now
