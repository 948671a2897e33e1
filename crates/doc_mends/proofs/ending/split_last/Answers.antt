use Rattle.std.proofs.Common.{subst, sym}
use Rattle.doc_model.specs.declared.item.Item.{Item}
use Rattle.doc_model.specs.Document.{HasPropertyMaps}
use Rattle.doc_mends.proofs.EndLemmas.{left_maps, ending_maps}
use Rattle.doc_mends.proofs.ending.split_last.Goals as goal

pub add-requires-clause-maps : goal.add-requires-clause-maps
add-requires-clause-maps c = left_maps c.args.item _ c.cell_mark.ensures c.requires

pub add-requires-2-clause-maps : goal.add-requires-2-clause-maps
add-requires-2-clause-maps c =
    subst (λ (item : Item). HasPropertyMaps item) (sym c.ending_item.ensures) (ending_maps c.args.item.sect
    c.requires.sect)
