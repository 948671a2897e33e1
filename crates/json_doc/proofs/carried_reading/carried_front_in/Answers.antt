use Rattle.std.proofs.Common.{refl}
use Rattle.std.proofs.lemmas.Result.{err_from_is_err_and}
use Rattle.json_doc.proofs.RowLemmas.{then_goes, then_lost}
use Rattle.json_doc.proofs.carried_reading.carried_front_in.Goals as goal

pub returns-in_err-assoc : goal.returns-in_err-assoc
returns-in_err-assoc c =
    let p = err_from_is_err_and c.from_residual.result c.from_residual.ensures.1 in
    rw (p.1, p.2) (λ shape. then_lost _ (rw shape at c.in_err-assoc.ensures))

pub returns-in_err-clsid : goal.returns-in_err-clsid
returns-in_err-clsid c =
    let p = err_from_is_err_and c.from_residual-in_err-clsid.result c.from_residual-in_err-clsid.ensures.1 in
    rw (p.1, p.2) (λ shape. then_goes _ c.in_ok-assoc.ensures
    (then_lost _ (rw shape at c.in_err-clsid.ensures)))

pub returns-in_err-dop : goal.returns-in_err-dop
returns-in_err-dop c =
    let p = err_from_is_err_and c.from_residual-in_err-dop.result c.from_residual-in_err-dop.ensures.1 in
    rw (p.1, p.2) (λ shape. then_goes _ c.in_ok-assoc.ensures
    (then_goes _ c.in_ok-clsid.ensures
    (then_lost _ (rw shape at c.in_err-dop.ensures))))

pub returns-in_err-flags : goal.returns-in_err-flags
returns-in_err-flags c =
    let p = err_from_is_err_and c.from_residual-in_err-flags.result c.from_residual-in_err-flags.ensures.1 in
    rw (p.1, p.2) (λ shape. then_goes _ c.in_ok-assoc.ensures
    (then_goes _ c.in_ok-clsid.ensures
    (then_goes _ c.in_ok-dop.ensures
    (then_lost _ (rw shape at c.in_err-flags.ensures)))))

pub returns-in_err-fonts : goal.returns-in_err-fonts
returns-in_err-fonts c =
    let p = err_from_is_err_and c.from_residual-in_err-fonts.result c.from_residual-in_err-fonts.ensures.1 in
    rw (p.1, p.2) (λ shape. then_goes _ c.in_ok-assoc.ensures
    (then_goes _ c.in_ok-clsid.ensures
    (then_goes _ c.in_ok-dop.ensures
    (then_goes _ c.in_ok-flags.ensures
    (then_lost _ (rw shape at c.in_err-fonts.ensures))))))

pub returns : goal.returns
returns c =
    then_goes _ c.in_ok-assoc.ensures
    (then_goes _ c.in_ok-clsid.ensures
    (then_goes _ c.in_ok-dop.ensures
    (then_goes _ c.in_ok-flags.ensures
    (then_goes _ c.in_ok-fonts.ensures
    refl))))
