use Rattle.std.proofs.Common.{refl, arith}
use Rattle.doc_parts.specs.declared.lists.NoteRef.{NoteRef}
use Rattle.doc_read.specs.Marked.{note_kind}
use Rattle.doc_read.proofs.CollectLemmas.{pushed_more, pushed_all}
use Rattle.doc_read.proofs.marked.push_notes.Goals as goal

pub loop-i-preserved : goal.loop-i-preserved
loop-i-preserved c = record {
  cps_so_far = pushed_more (λ (ref : NoteRef). ref.cp) c.args.refs.now c.loop-i.i _ _ c.args.cps.now.items
      c.loop-i.cps.items c.push.new.self.items c.get-cp.ensures refl c.in_ok-push.ensures.items
      c.loop-i.invariant.cps_so_far;
  kinds_so_far = pushed_more (λ (ref : NoteRef). note_kind ref.auto) c.args.refs.now c.loop-i.i _ _
      c.args.kinds.now.items c.loop-i.kinds.items c.push-in-loop-i.new.self.items c.get-cp.ensures c.kind_of.ensures
      c.in_ok-push-2.ensures.items c.loop-i.invariant.kinds_so_far;
}

pub returns-clause-cps : goal.returns-clause-cps
returns-clause-cps c = pushed_all (λ (ref : NoteRef). ref.cp) c.args.refs.now c.loop-i.i c.args.cps.now.items
    c.loop-i.cps.items (omega arith) c.loop-i.invariant.cps_so_far

pub returns-clause-kinds : goal.returns-clause-kinds
returns-clause-kinds c = pushed_all (λ (ref : NoteRef). note_kind ref.auto) c.args.refs.now c.loop-i.i
    c.args.kinds.now.items c.loop-i.kinds.items (omega arith) c.loop-i.invariant.kinds_so_far
