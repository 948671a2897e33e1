use Rattle.std.proofs.Common.{arith}
use Rattle.piece_table.specs.Clx.{ClxParts}
use Rattle.piece_table.proofs.ClxRuleLemmas.{parts_within}
use Rattle.piece_table.proofs.reading.read_clx.Goals as goal

pub read_parts-requires-clause-place : goal.read_parts-requires-clause-place
read_parts-requires-clause-place c =
    let parts : ClxParts = record { prcs = c.in_ok-parts.parts.prcs; plc = c.in_ok-parts.parts.plc } in
    let place = c.requires.place in
    omega (arith, parts_within c.args.clx.now c.in_ok-parts.parts.place parts c.in_ok-parts.ensures.1)
