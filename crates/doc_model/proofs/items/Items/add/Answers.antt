-- The list with one more item is well formed.
use Rattle.std.proofs.Common.{rules}
use Rattle.doc_model.specs.Document.{IsFormedItem}
use Rattle.doc_model.proofs.FormedLemmas.{IsFormedList-add}
use Rattle.doc_model.proofs.items.Items.add.Goals as goal

pub invariant_of-self-2 : goal.invariant_of-self-2
invariant_of-self-2 c =
    IsFormedList-add IsFormedItem _ _ _ c.in_ok-push.ensures.items (search rules) c.self.invariant
    (record { maps = c.requires.maps; unit = search rules; style = search rules; field = search rules })
