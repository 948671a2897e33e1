use Rattle.std.proofs.Common.{refl}
use Rattle.std.proofs.lemmas.Result.{err_from_is_err_and}
use Rattle.json_doc.proofs.RowLemmas.{gives_lost, then_goes, then_lost}
use Rattle.json_doc.proofs.carried_reading.streams_at.Goals as goal

pub returns-in_err-streams : goal.returns-in_err-streams
returns-in_err-streams c =
    let p = err_from_is_err_and c.from_residual.result c.from_residual.ensures.1 in
    rw (p.1, p.2) (λ shape front back. then_lost _ c.in_err-streams.ensures.1)

pub returns-in_err-end : goal.returns-in_err-end
returns-in_err-end c =
    let p = err_from_is_err_and c.from_residual-in_err-end.result c.from_residual-in_err-end.ensures.1 in
    rw (p.1, p.2) (λ shape front back. then_goes _ c.in_ok-streams.ensures
    (then_lost _ (gives_lost c.in_err-end.ensures shape)))

pub returns : goal.returns
returns c = λ front back. then_goes _ c.in_ok-streams.ensures (then_goes _ c.in_ok-end.ensures refl)
