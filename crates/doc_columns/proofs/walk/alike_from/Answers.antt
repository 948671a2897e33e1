-- What both columns have at a place.
use Rattle.std.proofs.Common.{arith}
use Rattle.run_lists.specs.Spread.{expanded}
use Rattle.doc_model.specs.declared.item.Item.{Item}
use Rattle.doc_columns.specs.Attached.{attached_of}
use Rattle.doc_columns.specs.Walks.{items_in}
use Rattle.doc_columns.proofs.WalkLemmas.{part_at, chps_are, attachments_are}
use Rattle.doc_columns.proofs.walk.alike_from.Goals as goal

pub returns-clause-chps : goal.returns-clause-chps
returns-clause-chps c = λ k item le until here.
    let parts = c.args.parts.now in
    part_at (λ (x : Item). x.chp) (items_in parts) (expanded parts.chps.now) k item
    c.value_until-chps_end.result.0.now (chps_are parts c.requires.parts) here
    (c.value_until-chps_end.ensures.values k le (omega (arith, until, c.min.ensures)))

pub returns-clause-attachments : goal.returns-clause-attachments
returns-clause-attachments c = λ k item le until here.
    let parts = c.args.parts.now in
    part_at attached_of (items_in parts) (expanded parts.attachments.now) k item
    c.value_until-attachments_end.result.0.now
    (attachments_are parts c.requires.parts) here
    (c.value_until-attachments_end.ensures.values k le (omega (arith, until, c.min.ensures)))
