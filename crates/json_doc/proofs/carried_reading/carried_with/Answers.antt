use Rattle.json_doc.proofs.carried_reading.carried_with.Goals as goal

pub returns-in-Ok : goal.returns-in-Ok
returns-in-Ok c = rw c.fields_from.ensures (c.in-Ok.ensures c.args.front c.args.back)

pub returns-in-Err : goal.returns-in-Err
returns-in-Err c = λ shape. c.in-Err.ensures shape c.args.front c.args.back
