use Rattle.prop_map.specs.Formed.{IsPropertyMap, paragraph_groups}
use Rattle.doc_model.specs.declared.item.Mark.{Mark}
use Rattle.json_doc.proofs.RowLemmas.{for_iff}
use Rattle.json_doc.proofs.piece_reading.has_valid_mark.Goals as goal

pub returns-in-Some : goal.returns-in-Some
returns-in-Some c = for_iff (λ (mark : Mark). IsPropertyMap paragraph_groups mark.pap) c.args.mark.now c.in-Some.mark _
    c.in-Some.is c.is_held.ensures
