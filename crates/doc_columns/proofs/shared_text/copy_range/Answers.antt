-- The parts are those of the whole columns.
use Rattle.std.proofs.Common.{◌∙◌, sym, ap, subst, List, length, arith}
use Rattle.std.specs.Prelude.{slice_range}
use Rattle.doc_model.specs.declared.item.Item.{Item}
use Rattle.doc_model.specs.Document.{IsFormedText}
use Rattle.doc_columns.proofs.WindowLemmas.{within_columns, same_items, parts_long, walk_of_parts}
use Rattle.doc_columns.proofs.shared_text.copy_range.Goals as goal

pub copy_part-requires-clause-parts : goal.copy_part-requires-clause-parts
copy_part-requires-clause-parts c =
    parts_long c.args.whole.now (record {
      units = c.deref.result;
      chps = c.deref-2.result;
      attachments =
          c.deref-3.result;
    })
    (record { units = c.deref.ensures.value; chps = c.deref-2.ensures.value; attachments = c.deref-3.ensures.value })
    c.requires.whole

pub copy_part-requires-clause-formed : goal.copy_part-requires-clause-formed
copy_part-requires-clause-formed c =
    subst IsFormedText
    (sym (same_items c.args.whole.now
    (record { units = c.deref.result; chps = c.deref-2.result; attachments = c.deref-3.result })
    (record { units = c.deref.ensures.value; chps = c.deref-2.ensures.value; attachments = c.deref-3.ensures.value })))
    c.requires.whole.formed

pub copy_part-requires-clause-walk : goal.copy_part-requires-clause-walk
copy_part-requires-clause-walk c =
    walk_of_parts c.args.whole.now
    (record { units = c.deref.result; chps = c.deref-2.result; attachments = c.deref-3.result }) c.args.walk c.args.from
    (record { units = c.deref.ensures.value; chps = c.deref-2.ensures.value; attachments = c.deref-3.ensures.value })
    c.requires.walk c.requires.before

pub copy_part-requires-clause-within : goal.copy_part-requires-clause-within
copy_part-requires-clause-within c =
    omega (
      arith,
      (within_columns c.args.whole.now c.args.to c.requires.whole c.requires.within).units,
      ap length c.deref.ensures.value,
    )

pub returns : goal.returns
returns c =
    c.in_ok-copy.ensures
    ∙ ap (λ (text : List Item). slice_range text c.args.from c.args.to)
    (same_items c.args.whole.now
    (record { units = c.deref.result; chps = c.deref-2.result; attachments = c.deref-3.result })
    (record { units = c.deref.ensures.value; chps = c.deref-2.ensures.value; attachments = c.deref-3.ensures.value }))
