use Rattle.prop_map.proofs.Public.{paragraph_after}
use Rattle.doc_patch.proofs.modify.modified_mark.Goals as goal

pub returns-clause-mark : goal.returns-clause-mark
returns-clause-mark c =
    let istd = c.unwrap_or.ensures in
    let pap = paragraph_after c.args.modifier.now c.args.mark.now.pap c.in_ok-after.after.map
    c.in_ok-after.ensures.map in
    λ i. record { istd = istd i; pap = pap i }
