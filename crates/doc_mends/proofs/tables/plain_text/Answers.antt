use Rattle.std.proofs.Common.{◌∙◌, ◌++◌, ap, List}
use Rattle.doc_bits.specs.declared.places.Story.TheVariants.{Main}
use Rattle.doc_mends.specs.declared.mends.BrokenRow.{BrokenRow}
use Rattle.doc_mends.specs.BrokenRows.{text_broken_rows}
use Rattle.doc_mends.proofs.tables.plain_text.Goals as goal

pub with_rows-requires : goal.with_rows-requires
with_rows-requires c =
    c.deref.ensures.value
    ∙ (c.in_ok-add_text.ensures
    ∙ ap (λ (l : List BrokenRow). l ++ text_broken_rows Main c.args.text) c.new-rows.ensures.items)
