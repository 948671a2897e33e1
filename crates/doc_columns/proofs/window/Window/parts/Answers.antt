-- The columns are those of the text.
use Rattle.std.proofs.Common.{◌≡◌, ◌∙◌, ap, length, arith}
use Rattle.std.proofs.lemmas.List.{length-map}
use Rattle.doc_model.specs.declared.item.Item.{Item}
use Rattle.doc_columns.specs.Attached.{attached_of}
use Rattle.doc_columns.specs.Columns.{items_of}
use Rattle.doc_columns.proofs.ItemsOfLemmas.{items_of-maps}
use Rattle.doc_columns.proofs.EqualityLemmas.{column_long}
use Rattle.doc_columns.proofs.window.Window.parts.Goals as goal

pub returns-clause-parts : goal.returns-clause-parts
returns-clause-parts c =
    let text = c.args.self.now in
    let long : length c.units.result.now ≡ length text =
    ap length c.units.ensures ∙ length-map text (λ (item : Item). item.unit) in
    record {
      chps_long =
          column_long c.chps.result.now text (λ (item : Item). item.chp) (length c.units.result.now) c.chps.ensures
          long;
      attachments_long = column_long c.attachments.result.now text attached_of (length c.units.result.now)
          c.attachments.ensures long;
      few = omega (arith, long, c.len-len.ensures.formed.few);
    }

pub returns-clause-items : goal.returns-clause-items
returns-clause-items c =
    (λ i. items_of (c.units.ensures i) (c.chps.ensures i) (c.attachments.ensures i)) ∙ items_of-maps c.args.self.now
