use Rattle.std.proofs.Common.{refl}
use Rattle.std.proofs.lemmas.Result.{err_from_is_err_and}
use Rattle.json_doc.proofs.RowLemmas.{then_goes, then_lost}
use Rattle.json_doc.proofs.carried_reading.carried_back_in.Goals as goal

pub returns-in_err-levels : goal.returns-in_err-levels
returns-in_err-levels c =
    let p = err_from_is_err_and c.from_residual.result c.from_residual.ensures.1 in
    rw (p.1, p.2) (λ shape front. then_lost _ (rw shape at c.in_err-levels.ensures))

pub returns-in_err-lfo : goal.returns-in_err-lfo
returns-in_err-lfo c =
    let p = err_from_is_err_and c.from_residual-in_err-lfo.result c.from_residual-in_err-lfo.ensures.1 in
    rw (p.1, p.2) (λ shape front. then_goes _ c.in_ok-levels.ensures
    (then_lost _ (rw shape at c.in_err-lfo.ensures)))

pub returns-in_err-lid : goal.returns-in_err-lid
returns-in_err-lid c =
    let p = err_from_is_err_and c.from_residual-in_err-lid.result c.from_residual-in_err-lid.ensures.1 in
    rw (p.1, p.2) (λ shape front. then_goes _ c.in_ok-levels.ensures
    (then_goes _ c.in_ok-lfo.ensures
    (then_lost _ (rw shape at c.in_err-lid.ensures))))

pub returns-in_err-lid_fe : goal.returns-in_err-lid_fe
returns-in_err-lid_fe c =
    let p = err_from_is_err_and c.from_residual-in_err-lid_fe.result c.from_residual-in_err-lid_fe.ensures.1 in
    rw (p.1, p.2) (λ shape front. then_goes _ c.in_ok-levels.ensures
    (then_goes _ c.in_ok-lfo.ensures
    (then_goes _ c.in_ok-lid.ensures
    (then_lost _ (rw shape at c.in_err-lid_fe.ensures)))))

pub returns-in_err-lst : goal.returns-in_err-lst
returns-in_err-lst c =
    let p = err_from_is_err_and c.from_residual-in_err-lst.result c.from_residual-in_err-lst.ensures.1 in
    rw (p.1, p.2) (λ shape front. then_goes _ c.in_ok-levels.ensures
    (then_goes _ c.in_ok-lfo.ensures
    (then_goes _ c.in_ok-lid.ensures
    (then_goes _ c.in_ok-lid_fe.ensures
    (then_lost _ (rw shape at c.in_err-lst.ensures))))))

pub returns : goal.returns
returns c =
    λ front. then_goes _ c.in_ok-levels.ensures
    (then_goes _ c.in_ok-lfo.ensures
    (then_goes _ c.in_ok-lid.ensures
    (then_goes _ c.in_ok-lid_fe.ensures
    (then_goes _ c.in_ok-lst.ensures
    refl))))
