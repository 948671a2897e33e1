-- The sum is counted anew.
use Rattle.std.proofs.Common.{◌+◌, ◌∙◌, ◌∷◌, ◌++◌, List, [], take, drop, set, refl, ap, arith}
use Rattle.std.proofs.Common.{length-set}
use Rattle.std.specs.List.{splice}
use Rattle.std.proofs.lemmas.List.{take-append-drop}
use Rattle.chunked_list.specs.Blocks.{total_units, block_at, BlockRow}
use Rattle.chunked_list.proofs.UnitLemmas.{numbers_set, set_spliced, units-append, units-cons}
use Rattle.chunked_list.proofs.JoinLemmas.{block_read}
use Rattle.chunked_list.proofs.row.Row.put.Goals as goal

pub units-units-requires : goal.units-units-requires
units-units-requires g c =
    let units = g.T.Measured.units in
    let blocks = c.self.inside.blocks.items in
    let now = ap (λ (r : BlockRow g.row.T.Denot). r.blocks) c.self.view_is in
    let old = c.index_mut-changed.result.now in
    let read = block_read blocks c.args.self.now.blocks c.args.block old now c.requires.block
    c.index_mut-changed.ensures.value in
    let e = ap (total_units units) c.insert.ensures in
    omega (
      arith,
      e,
      ap (total_units units) read.1,
      units-append units (take c.args.i old) (c.args.item ∷ drop c.args.i old),
      units-cons units c.args.item (drop c.args.i old),
      units-append units (take c.args.i old) (drop c.args.i old),
      ap (total_units units) (take-append-drop c.args.i old),
      c.requires.units,
    )

pub invariant_of-self : goal.invariant_of-self
invariant_of-self g c =
    let blocks = c.self.inside.blocks.items in
    let new = c.insert.new.self in
    record {
      each = numbers_set (total_units g.T.Measured.units) blocks (set blocks c.args.block new) new
          c.self.inside.sums.sums
          c.set.new.self.sums c.args.block c.units-units.result c.self.invariant.each c.units-units.ensures refl
          c.set.ensures.sums;
      room = omega (arith, length-set blocks c.args.block new, c.self.invariant.room);
      further = omega (arith, c.set.ensures.spare, c.self.invariant.further);
    }

pub returns-clause-blocks : goal.returns-clause-blocks
returns-clause-blocks g c =
    let blocks = c.self.inside.blocks.items in
    let b = c.args.block in
    let now = ap (λ (r : BlockRow g.row.T.Denot). r.blocks) c.self.view_is in
    let old = c.index_mut-changed.result.now in
    let read = block_read blocks c.args.self.now.blocks b old now c.requires.block
    c.index_mut-changed.ensures.value in
    let block = block_at c.args.self.now.blocks b in
    set_spliced blocks b c.insert.new.self read.0
    ∙ ap (λ (x : List g.row.T.Denot). splice blocks b (b + 1) (x ∷ [])) c.insert.ensures
    ∙ ap (λ (o : List g.row.T.Denot). splice blocks b (b + 1) ((take c.args.i o
    ++ (c.args.item ∷ drop c.args.i o)) ∷ []))
    read.1
    ∙ ap (λ (t : List (List g.row.T.Denot)).
    splice t b (b + 1) ((take c.args.i block ++ (c.args.item ∷ drop c.args.i block)) ∷ [])) now
