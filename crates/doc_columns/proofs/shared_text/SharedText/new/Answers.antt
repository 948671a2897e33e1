-- What is behind the Rc is the text, and the walk is at its start.
use Rattle.std.proofs.Common.{◌∙◌, sym, ap, subst}
use Rattle.doc_columns.specs.Windows.{column_items, AreWhole}
use Rattle.doc_columns.specs.declared.walk.Walk.{Walk}
use Rattle.doc_columns.proofs.CollectLemmas.{start_at}
use Rattle.doc_columns.proofs.shared_text.SharedText.new.Goals as goal

pub invariant_of-result : goal.invariant_of-result
invariant_of-result c =
    let whole = c.in_ok-new.field-0.value in
    let walk = c.new-2.result in
    record {
      are = subst AreWhole (sym c.in_ok-new.ensures.ok) c.in_ok-whole.ensures.whole;
      walk_is = record {
        at_chps = start_at whole.chps.items walk.chps (ap (λ (w : Walk). w.chps) c.new-2.ensures);
        at_attachments = start_at whole.attachments.items walk.attachments (ap (λ (w : Walk). w.attachments)
            c.new-2.ensures);
      };
    }

pub returns : goal.returns
returns c = ap column_items c.in_ok-new.ensures.ok ∙ c.in_ok-whole.ensures.items ∙ c.in_ok-into_own.ensures
