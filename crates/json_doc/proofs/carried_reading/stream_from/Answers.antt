use Rattle.std.proofs.Common.{arith}
use Rattle.json_doc.proofs.CarriedLemmas.{not_two}
use Rattle.json_doc.proofs.carried_reading.stream_from.Goals as goal

pub returns-in-empty : goal.returns-in-empty
returns-in-empty c = λ shape. not_two c.args.values.now (λ two. omega (arith, two, c.in-empty.len_below))

pub returns-in-len3-up : goal.returns-in-len3-up
returns-in-len3-up c = λ shape. not_two c.args.values.now (λ two. omega (arith, two, c.in-len3-up.len_at_least))
