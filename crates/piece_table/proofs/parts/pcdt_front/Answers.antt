use Rattle.piece_table.proofs.ClxLemmas.{pcdt_table}
use Rattle.piece_table.proofs.parts.pcdt_front.Goals as goal

pub returns-in_default : goal.returns-in_default
returns-in_default c = λ plc front. c.in_default.ensures plc.count (pcdt_table c.args.bytes.now c.get32-size.result
    plc c.get32-size.ensures front)
