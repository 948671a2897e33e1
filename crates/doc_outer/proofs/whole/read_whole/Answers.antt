use Rattle.std.proofs.Common.{take, arith, rules, ◌++◌}
use Rattle.std.proofs.lemmas.Grind.{common_steps}
use Rattle.doc_outer.specs.Held.{ReadsPart}
use Rattle.doc_outer.proofs.HeldLemmas.{Told-both}
use Rattle.doc_outer.proofs.WholeLemmas.{IsFront, IsFront-append}
use Rattle.doc_outer.proofs.whole.read_whole.Goals as goal

pub loop-taken-preserved : goal.loop-taken-preserved
loop-taken-preserved g c =
    let bytes = c.loop-taken.bytes in let buffer = c.read_at.new.buf in
    let at = c.loop-taken.taken in let count = c.in_ok-count.count in
    let part = rw c.loop-taken.invariant.kept at c.in_ok-count.ensures.bytes in
    record {
      count = grind (arith, common_steps);
      part = grind (arith, common_steps);
      limit = grind (arith, common_steps);
      kept = cc (c.read_at.ensures.kept, c.loop-taken.invariant.kept);
      front = rw c.in_ok-push_all.ensures.ok (Told-both (g.S.Shelf.held c.args.shelf.now) c.args.name.now
          (IsFront bytes) (ReadsPart at count buffer) (IsFront (bytes ++ take count buffer))
          (IsFront-append bytes buffer at count c.loop-taken.invariant.count) c.loop-taken.invariant.front part);
      faults = search rules;
      missed = search rules;
      put_faults = cc (c.read_at.ensures.put_faults, c.loop-taken.invariant.put_faults);
    }
