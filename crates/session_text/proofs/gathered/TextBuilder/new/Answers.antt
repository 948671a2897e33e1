use Rattle.doc_columns.proofs.Public.{none_columns, none_items}
use Rattle.session_text.proofs.gathered.TextBuilder.new.Goals as goal

pub invariant_of-result : goal.invariant_of-result
invariant_of-result c =
    none_columns c.new.result.items c.new-2.result c.new-3.result c.new.ensures.items c.new-2.ensures c.new-3.ensures

pub returns : goal.returns
returns c = none_items c.new.result.items c.new-2.result c.new-3.result c.new.ensures.items
