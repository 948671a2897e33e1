use Rattle.std.proofs.Common.{arith, length, drop, take, ◌-◌}
use Rattle.std.proofs.lemmas.List.{take_rest}
use Rattle.sprm_table.proofs.SprmLemmas.{prl_at}
use Rattle.sprm_table.proofs.lists.head.Goals as goal

pub returns-in-Some : goal.returns-in-Some
returns-in-Some c =
    let list = c.args.list.now in
    prl_at list (take (length list - 2) (drop 2 list)) c.get16-2.result c.in-Some.from c.in-Some.to
    (λ i. omega (arith, c.type_inv.list i))
    (omega arith) c.get16-2.ensures (omega arith) (omega arith) (take_rest list 2) c.in-Some.ensures
