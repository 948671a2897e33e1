-- The only item is well formed.
use Rattle.doc_model.proofs.Public.{blank_item_maps}
use Rattle.plain_doc.proofs.blank_parts.only_paragraph.Goals as goal

pub add-requires-clause-maps : goal.add-requires-clause-maps
add-requires-clause-maps c = rw c.only_item.ensures blank_item_maps
