use Rattle.std.proofs.Common.{arith}
use Rattle.char_formats.proofs.ChangeLemmas.{change-then}
use Rattle.char_formats.proofs.change.Change.then.Goals as goal

pub returns : goal.returns
returns c = λ one other h k.
    change-then c.args.self.now c.args.next.now _ one other (omega (arith, h.count)) c.add_flags.ensures
    c.or-made.ensures c.or-made-2.ensures c.or-made-3.ensures h k
