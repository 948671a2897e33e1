use Rattle.std.proofs.Common.{◌<◌, ap, length, arith}
use Rattle.fast_save.specs.declared.session.Session.TheInside.{Inside}
use Rattle.fast_save.specs.Session.{SessionView}
use Rattle.fast_save.proofs.ResultLemmas.{some_item}
use Rattle.fast_save.proofs.session.Session.main_len.Goals as goal

pub returns-clause-len : goal.returns-clause-len
returns-clause-len c =
    let same = ap (λ (view : SessionView). length view.document.main) c.self.view_is in
    let len = c.len.ensures.len in
    let few = c.len.ensures.formed.few in
    let inner = ap (λ (session : Inside). length session.document.main) c.self-inside.view_is in
    omega arith

pub returns-clause-some : goal.returns-clause-some
returns-clause-some c =
    let some : 0 < length c.self.inside.document.main = some_item c.self.inside.document c.self.invariant.0.sound in
    let len = c.len.ensures.len in
    let few = c.len.ensures.formed.few in
    let inner = ap (λ (session : Inside). length session.document.main) c.self-inside.view_is in
    omega arith
