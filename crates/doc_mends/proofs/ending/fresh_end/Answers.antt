use Rattle.std.proofs.Common.{subst, sym, None}
use Rattle.doc_model.specs.declared.item.Item.{Item}
use Rattle.doc_model.specs.Document.{HasPropertyMaps}
use Rattle.doc_mends.proofs.EndLemmas.{ending_maps}
use Rattle.doc_mends.proofs.ending.fresh_end.Goals as goal

pub add-requires-clause-maps : goal.add-requires-clause-maps
add-requires-clause-maps c =
    subst (λ (item : Item). HasPropertyMaps item) (sym c.ending_item.ensures) (ending_maps None (λ map is. absurd
    (cc is)))
