use Rattle.std.proofs.Common.{sym}
use Rattle.std.specs.Prelude.{Ok, Err}
use Rattle.doc_losses.proofs.CpLemmas.{is_searched, found_there, found_nowhere}
use Rattle.doc_losses.proofs.cps.CpSet.has.Goals as goal

pub returns-in-Ok : goal.returns-in-Ok
returns-in-Ok c =
    let found = is_searched c.deref.result.now c.args.cp (Ok c.in-Ok.field-0) (rw c.deref.ensures.value c.self.invariant) c.in-Ok.ensures.position in
    rw (← c.self.view_is, ← c.deref.ensures.value) (sym (found_there c.deref.result.now c.args.cp c.in-Ok.field-0 found))

pub returns-in-Err : goal.returns-in-Err
returns-in-Err c =
    let found = is_searched c.deref.result.now c.args.cp (Err c.in-Err.field-0) (rw c.deref.ensures.value c.self.invariant) c.in-Err.ensures.position in
    rw (← c.self.view_is, ← c.deref.ensures.value) (sym (found_nowhere c.deref.result.now c.args.cp c.in-Err.field-0 found))
