use Rattle.std.proofs.Common.{arith}
use Rattle.std.proofs.lemmas.List.{append-nil}
use Rattle.full_save.proofs.TableLemmas.{part_fits, up_to_next, up_to_all}
use Rattle.full_save.proofs.table_parts.TableParts.put_all.Goals as goal

pub loop-part-init : goal.loop-part-init
loop-part-init c = record { written = λ parts are. rw append-nil are; len = omega arith }

pub put-requires : goal.put-requires
put-requires c =
    omega (arith, c.loop-part.invariant.len, part_fits)

pub loop-part-preserved : goal.loop-part-preserved
loop-part-preserved c =
    up_to_next c.args.parts.now c.loop-part.part-index _ c.args.self.now c.loop-part.self c.put.new.self
    c.loop-part-test.true c.in_ok-put.ensures.part c.in_ok-put.ensures.count c.loop-part.invariant

pub returns : goal.returns
returns c =
    up_to_all c.args.parts.now c.loop-part.part-index c.args.self.now c.loop-part.self c.loop-part-test.false
    c.loop-part.invariant
