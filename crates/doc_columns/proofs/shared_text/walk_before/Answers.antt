use Rattle.std.proofs.Common.{ap, arith}
use Rattle.doc_columns.specs.declared.walk.Walk.{Walk}
use Rattle.doc_columns.proofs.CollectLemmas.{start_at}
use Rattle.doc_columns.proofs.shared_text.walk_before.Goals as goal

pub returns-clause-over : goal.returns-clause-over
returns-clause-over c =
    let walk = c.new.result in
    record {
      at_chps = start_at c.args.whole.now.chps.items walk.chps (ap (λ (w : Walk). w.chps) c.new.ensures);
      at_attachments = start_at c.args.whole.now.attachments.items walk.attachments (ap (λ (w : Walk). w.attachments)
          c.new.ensures);
    }

pub returns-clause-before : goal.returns-clause-before
returns-clause-before c = record {
  chps_ahead = omega (arith, ap (λ (w : Walk). w.chps.begin) c.new.ensures);
  attachments_ahead = omega (arith, ap (λ (w : Walk). w.attachments.begin) c.new.ensures);
}
