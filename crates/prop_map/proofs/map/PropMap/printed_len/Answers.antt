use Rattle.std.proofs.Common.{arith}
use Rattle.prop_map.proofs.LengthLemmas.{small_map}
use Rattle.prop_map.proofs.map.PropMap.printed_len.Goals as goal

pub returns-clause-bound : goal.returns-clause-bound
returns-clause-bound c =
    let small = small_map c.args.self.now c.requires in
    let len = c.list_len.ensures in
    omega arith
