-- Each style is well formed.
use Rattle.doc_model.proofs.Public.{normal_is_formed, heading_is_formed, default_font_is_formed}
use Rattle.plain_doc.proofs.blank_parts.sheet.Goals as goal

pub new-requires : goal.new-requires
new-requires c = rw c.in_ok-normal.ensures normal_is_formed

pub add-requires-clause-formed : goal.add-requires-clause-formed
add-requires-clause-formed c = rw c.in_ok-heading.ensures heading_is_formed

pub add-requires-2-clause-formed : goal.add-requires-2-clause-formed
add-requires-2-clause-formed c = rw c.in_ok-default_font.ensures default_font_is_formed
