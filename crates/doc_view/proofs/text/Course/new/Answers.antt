use Rattle.std.proofs.Common.{refl, arith}
use Rattle.doc_view.proofs.text.Course.new.Goals as goal

pub returns-clause-course : goal.returns-clause-course
returns-clause-course c = λ manner items room.
    record { within = omega arith; fields = c.new-2.ensures; front = refl; room = room }
