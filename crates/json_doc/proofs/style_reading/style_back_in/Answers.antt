use Rattle.std.proofs.Common.{refl}
use Rattle.std.proofs.lemmas.Result.{err_from_is_err_and}
use Rattle.json_doc.proofs.RowLemmas.{then_goes, then_lost}
use Rattle.json_doc.proofs.style_reading.style_back_in.Goals as goal

pub returns-in_err-next : goal.returns-in_err-next
returns-in_err-next c =
    let p = err_from_is_err_and c.from_residual.result c.from_residual.ensures.1 in
    rw (p.1, p.2) (λ shape front. then_lost _ (rw shape at c.in_err-next.ensures))

pub returns-in_err-pap : goal.returns-in_err-pap
returns-in_err-pap c =
    let p = err_from_is_err_and c.from_residual-in_err-pap.result c.from_residual-in_err-pap.ensures.1 in
    rw (p.1, p.2) (λ shape front. then_goes _ c.in_ok-next.ensures
    (then_lost _ (rw shape at c.in_err-pap.ensures)))

pub returns-in_err-sti : goal.returns-in_err-sti
returns-in_err-sti c =
    let p = err_from_is_err_and c.from_residual-in_err-sti.result c.from_residual-in_err-sti.ensures.1 in
    rw (p.1, p.2) (λ shape front. then_goes _ c.in_ok-next.ensures
    (then_goes _ c.in_ok-pap.ensures
    (then_lost _ (rw shape at c.in_err-sti.ensures))))

pub returns-in_err-stk : goal.returns-in_err-stk
returns-in_err-stk c =
    let p = err_from_is_err_and c.from_residual-in_err-stk.result c.from_residual-in_err-stk.ensures.1 in
    rw (p.1, p.2) (λ shape front. then_goes _ c.in_ok-next.ensures
    (then_goes _ c.in_ok-pap.ensures
    (then_goes _ c.in_ok-sti.ensures
    (then_lost _ (rw shape at c.in_err-stk.ensures)))))

pub returns-in_err-upxes : goal.returns-in_err-upxes
returns-in_err-upxes c =
    let p = err_from_is_err_and c.from_residual-in_err-upxes.result c.from_residual-in_err-upxes.ensures.1 in
    rw (p.1, p.2) (λ shape front. then_goes _ c.in_ok-next.ensures
    (then_goes _ c.in_ok-pap.ensures
    (then_goes _ c.in_ok-sti.ensures
    (then_goes _ c.in_ok-stk.ensures
    (then_lost _ (rw shape at c.in_err-upxes.ensures))))))

pub returns : goal.returns
returns c =
    λ front. then_goes _ c.in_ok-next.ensures
    (then_goes _ c.in_ok-pap.ensures
    (then_goes _ c.in_ok-sti.ensures
    (then_goes _ c.in_ok-stk.ensures
    (then_goes _ c.in_ok-upxes.ensures
    refl))))
