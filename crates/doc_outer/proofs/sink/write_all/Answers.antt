use Rattle.std.proofs.Common.{rules, take, drop}
use Rattle.std.proofs.Math.Seq.{take-add}
use Rattle.std.proofs.lemmas.List.{take_rest}
use Rattle.doc_outer.proofs.WrittenLemmas.{Appends-append, Appends-nil}
use Rattle.doc_outer.proofs.sink.write_all.Goals as goal

pub loop-taken-init : goal.loop-taken-init
loop-taken-init g c = record {
  within = search rules;
  appended = Appends-nil (g.K.Sink.written c.args.sink.now);
  faults = search rules;
}

pub loop-taken-preserved : goal.loop-taken-preserved
loop-taken-preserved g c =
    let bytes = c.args.bytes.now in let taken = c.loop-taken.taken in let count = c.in_ok-count.count in
    let next = rw (take_rest bytes taken) at c.in_ok-count.ensures.taken in
    record {
      within = search rules;
      appended = rw (take-add taken count bytes) (Appends-append _ _ _ (take taken bytes)
          (take count (drop taken bytes)) c.loop-taken.invariant.appended next);
      faults = search rules;
    }
