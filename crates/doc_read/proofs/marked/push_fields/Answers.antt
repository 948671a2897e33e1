use Rattle.std.proofs.Common.{◌+◌, refl, arith}
use Rattle.doc_parts.specs.declared.lists.Fld.{Fld}
use Rattle.doc_read.proofs.CollectLemmas.{pushed_more, pushed_all}
use Rattle.doc_read.proofs.marked.push_fields.Goals as goal

pub loop-i-preserved : goal.loop-i-preserved
loop-i-preserved c = record {
  cps_so_far = pushed_more (λ (fld : Fld). c.args.begin + fld.cp) c.args.fields.now c.loop-i.i _ _
      c.args.cps.now.items c.loop-i.cps.items c.push.new.self.items c.get-cp.ensures refl c.in_ok-push.ensures.items
      c.loop-i.invariant.cps_so_far;
  bytes_so_far = pushed_more (λ (fld : Fld). fld.byte) c.args.fields.now c.loop-i.i _ _ c.args.bytes.now.items
      c.loop-i.bytes.items c.push-in-loop-i.new.self.items c.get-cp.ensures refl c.in_ok-push-2.ensures.items
      c.loop-i.invariant.bytes_so_far;
}

pub returns-clause-cps : goal.returns-clause-cps
returns-clause-cps c = pushed_all (λ (fld : Fld). c.args.begin + fld.cp) c.args.fields.now c.loop-i.i
    c.args.cps.now.items c.loop-i.cps.items (omega arith) c.loop-i.invariant.cps_so_far

pub returns-clause-bytes : goal.returns-clause-bytes
returns-clause-bytes c = pushed_all (λ (fld : Fld). fld.byte) c.args.fields.now c.loop-i.i c.args.bytes.now.items
    c.loop-i.bytes.items (omega arith) c.loop-i.invariant.bytes_so_far
