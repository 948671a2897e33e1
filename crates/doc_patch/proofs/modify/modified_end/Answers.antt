use Rattle.std.proofs.Common.{Some}
use Rattle.prop_map.specs.Formed.{IsPropertyMap, paragraph_groups}
use Rattle.doc_model.proofs.Public.{ForSome-from_cases}
use Rattle.doc_patch.proofs.modify.modified_end.Goals as goal

pub returns-in_ok-modified_mark-in-Some-clause-formed : goal.returns-in_ok-modified_mark-in-Some-clause-formed
returns-in_ok-modified_mark-in-Some-clause-formed c = λ formed here.
    ForSome-from_cases (Some c.in_ok-modified_mark-in-Some.field-0) (λ mark. IsPropertyMap paragraph_groups mark.pap)
    (c.in_ok-modified_mark-in-Some.ensures.formed formed (here c.in-Some.mark c.in-Some.is))
