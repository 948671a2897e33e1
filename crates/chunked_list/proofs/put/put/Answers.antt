-- The block has room.
use Rattle.std.proofs.Common.{ap, arith}
use Rattle.chunked_list.specs.Blocks.{total_units}
use Rattle.chunked_list.proofs.JoinLemmas.{units_of_block}
use Rattle.chunked_list.proofs.PutLemmas.{put_in}
use Rattle.chunked_list.proofs.put.put.Goals as goal

pub put-requires-clause-units : goal.put-requires-clause-units
put-requires-clause-units g c =
    let units = g.T.Measured.units in
    let made = c.make_room-seat.ensures.made in
    omega (
      arith,
      units_of_block units c.make_room-seat.new.row.blocks c.make_room-seat.result.block made.in_block.there,
      ap (total_units units) made.same,
      c.requires.units,
    )

pub returns-clause-put : goal.returns-clause-put
returns-clause-put g c =
    put_in c.args.row.now.blocks c.make_room-seat.new.row.blocks c.put.new.self.blocks c.args.place
    c.make_room-seat.result c.args.item c.make_room-seat.ensures.made c.put.ensures.blocks
