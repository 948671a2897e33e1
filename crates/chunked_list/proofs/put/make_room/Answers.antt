-- A full block divides.
use Rattle.std.proofs.Common.{◌-◌, ℕ, sym, subst, arith}
use Rattle.std.specs.Vec.{vec_len}
use Rattle.chunked_list.specs.Blocks.{IsMadeRoom}
use Rattle.chunked_list.proofs.JoinLemmas.{units_of_block}
use Rattle.chunked_list.proofs.PutLemmas.{divided, made_first, made_second, rest_empty}
use Rattle.chunked_list.proofs.put.make_room.Goals as goal

pub divide-next-requires-clause-units : goal.divide-next-requires-clause-units
divide-next-requires-clause-units g c =
    omega (
      arith,
      units_of_block g.T.Measured.units c.args.row.now.blocks c.args.place.block c.requires.place.there,
      c.requires.units,
    )

pub returns-then-place-le64-clause-made : goal.returns-then-place-le64-clause-made
returns-then-place-le64-clause-made g c =
    made_first c.args.row.now.blocks c.divide-next.new.self.blocks c.args.place
    (divided c.args.row.now.blocks c.divide-next.new.self.blocks c.args.place.block c.requires.place.there
    (omega (arith, c.requires.most, c.len.ensures)) c.divide-next.ensures.blocks)
    (omega arith)

pub returns-then-place-le64-clause-empty : goal.returns-then-place-le64-clause-empty
returns-then-place-le64-clause-empty g c =
    rest_empty c.args.ready.now.items c.pop.new.self.items (vec_len c.args.ready.now - 1) c.pop.ensures.rest
    c.requires.empty

pub returns-clause-made : goal.returns-clause-made
returns-clause-made g c =
    subst (λ (n : ℕ). IsMadeRoom c.args.row.now.blocks c.divide-next.new.self.blocks c.args.place
    (record { block = n; within = c.args.place.within - 64 })) (sym c.divide-next.ensures.next)
    (made_second c.args.row.now.blocks c.divide-next.new.self.blocks c.args.place
    (divided c.args.row.now.blocks c.divide-next.new.self.blocks c.args.place.block c.requires.place.there
    (omega (arith, c.requires.most, c.len.ensures)) c.divide-next.ensures.blocks)
    (omega arith) (omega (arith, c.requires.place.inside, c.requires.most)))

pub returns-clause-empty : goal.returns-clause-empty
returns-clause-empty g c =
    rest_empty c.args.ready.now.items c.pop.new.self.items (vec_len c.args.ready.now - 1) c.pop.ensures.rest
    c.requires.empty
