use Rattle.std.proofs.Common.{◌∙◌, sym, arith}
use Rattle.doc_read.proofs.CollectLemmas.{lasts_none, lasts_more, lasts_all}
use Rattle.doc_read.proofs.marked.last_cps.Goals as goal

pub loop-k-init : goal.loop-k-init
loop-k-init c = record { begun = omega arith; so_far = c.new-cps.ensures.items ∙ sym (lasts_none c.args.sections.now) }

pub loop-k-preserved : goal.loop-k-preserved
loop-k-preserved c = record {
  begun = omega arith;
  so_far = lasts_more c.args.sections.now c.loop-k.k _ c.loop-k.cps.items c.push.new.self.items _
      c.loop-k.invariant.begun c.get-start.ensures c.saturating_sub.ensures c.in_ok-push.ensures.items
      c.loop-k.invariant.so_far;
}

pub returns : goal.returns
returns c = lasts_all c.args.sections.now c.loop-k.k c.args.main_len c.loop-k.cps.items c.push-2.new.self.items _
    (omega arith) c.saturating_sub-2.ensures c.in_ok-push-2.ensures.items c.loop-k.invariant.so_far
