use Rattle.doc_patch.proofs.modify.modified_attached.Goals as goal

pub returns : goal.returns
returns c =
    let copy = c.in_ok-made.ensures in
    let mark = c.in_ok-made-2.ensures.mark in
    record {
      is = λ i. record { fld = (copy i).fld; note = (copy i).note; mark = mark i; sect = (copy i).sect };
      formed = c.in_ok-made-2.ensures.formed;
    }
