use Rattle.std.proofs.Common.{sym, subst}
use Rattle.style_sheet.specs.Formed.{IsFormedSlot}
use Rattle.doc_join.proofs.SheetLemmas.{given_formed, first_formed}
use Rattle.doc_join.proofs.sheets.copy_first.Goals as goal

pub new-requires : goal.new-requires
new-requires c =
    subst IsFormedSlot (sym c.in_ok-slot_of_first.ensures.made)
    (first_formed c.args.maps.now.numbers _ (given_formed (λ style. style.now) c.get.result c.get.ensures.formed))

pub add-requires-clause-formed : goal.add-requires-clause-formed
add-requires-clause-formed c =
    subst IsFormedSlot (sym c.in_ok-slot_of_first-2.ensures.made)
    (first_formed c.loop-istd.maps.numbers _
    (given_formed (λ style. style.now) c.get-in-loop-istd.result c.get-in-loop-istd.ensures.formed))
