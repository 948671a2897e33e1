-- The parts are copied from the start.
use Rattle.std.proofs.Common.{◌∙◌, sym, ap, subst, length, List, arith}
use Rattle.std.specs.Prelude.{slice_range}
use Rattle.doc_model.specs.declared.item.Item.{Item}
use Rattle.doc_model.specs.Document.{IsFormedText}
use Rattle.doc_columns.proofs.WalkLemmas.{items_long, first_walk, later_walk}
use Rattle.doc_columns.proofs.window.Window.part.Goals as goal

pub copy_part-requires-clause-formed : goal.copy_part-requires-clause-formed
copy_part-requires-clause-formed c = subst IsFormedText (sym c.parts-parts.ensures.items) c.len-len.ensures.formed

pub copy_part-requires-clause-walk : goal.copy_part-requires-clause-walk
copy_part-requires-clause-walk c =
    let parts = c.parts-parts.result in
    later_walk parts c.new.result 0 c.args.from (first_walk parts c.new.result c.new.ensures) (omega arith)

pub copy_part-requires-clause-within : goal.copy_part-requires-clause-within
copy_part-requires-clause-within c =
    omega (
      arith,
      items_long c.parts-parts.result c.parts-parts.ensures.parts,
      ap length c.parts-parts.ensures.items,
      c.requires.within,
    )

pub returns : goal.returns
returns c =
    c.in_ok-part.ensures
    ∙ ap (λ (text : List Item). slice_range text c.args.from c.args.to) c.parts-parts.ensures.items
