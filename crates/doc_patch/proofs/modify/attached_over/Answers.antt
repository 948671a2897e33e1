use Rattle.doc_patch.proofs.modify.attached_over.Goals as goal

pub returns : goal.returns
returns c =
    let copy = c.in_ok-made.ensures in
    let sect = c.in_ok-made-2.ensures in
    λ i. record { fld = (copy i).fld; note = (copy i).note; mark = (copy i).mark; sect = sect i }
