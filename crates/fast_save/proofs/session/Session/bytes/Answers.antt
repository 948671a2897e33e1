use Rattle.std.proofs.Common.{sym, subst}
use Rattle.doc_read.specs.Holds.{IsAccepted}
use Rattle.fast_save.proofs.session.Session.bytes.Goals as goal

pub returns-clause-accepted : goal.returns-clause-accepted
returns-clause-accepted c = subst IsAccepted (sym c.as_slice.ensures) c.self.invariant.0.accepted
