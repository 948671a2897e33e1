use Rattle.std.proofs.Common.{refl}
use Rattle.std.proofs.lemmas.Result.{err_from_is_err_and}
use Rattle.json_doc.proofs.RowLemmas.{then_goes, then_lost}
use Rattle.json_doc.proofs.style_reading.style_front_in.Goals as goal

pub returns-in_err-base : goal.returns-in_err-base
returns-in_err-base c =
    let p = err_from_is_err_and c.from_residual.result c.from_residual.ensures.1 in
    rw (p.1, p.2) (λ shape. then_lost _ (rw shape at c.in_err-base.ensures))

pub returns-in_err-chp : goal.returns-in_err-chp
returns-in_err-chp c =
    let p = err_from_is_err_and c.from_residual-in_err-chp.result c.from_residual-in_err-chp.ensures.1 in
    rw (p.1, p.2) (λ shape. then_goes _ c.in_ok-base.ensures
    (then_lost _ (rw shape at c.in_err-chp.ensures)))

pub returns-in_err-flags : goal.returns-in_err-flags
returns-in_err-flags c =
    let p = err_from_is_err_and c.from_residual-in_err-flags.result c.from_residual-in_err-flags.ensures.1 in
    rw (p.1, p.2) (λ shape. then_goes _ c.in_ok-base.ensures
    (then_goes _ c.in_ok-chp.ensures
    (then_lost _ (rw shape at c.in_err-flags.ensures))))

pub returns-in_err-grfstd : goal.returns-in_err-grfstd
returns-in_err-grfstd c =
    let p = err_from_is_err_and c.from_residual-in_err-grfstd.result c.from_residual-in_err-grfstd.ensures.1 in
    rw (p.1, p.2) (λ shape. then_goes _ c.in_ok-base.ensures
    (then_goes _ c.in_ok-chp.ensures
    (then_goes _ c.in_ok-flags.ensures
    (then_lost _ (rw shape at c.in_err-grfstd.ensures)))))

pub returns-in_err-name : goal.returns-in_err-name
returns-in_err-name c =
    let p = err_from_is_err_and c.from_residual-in_err-name.result c.from_residual-in_err-name.ensures.1 in
    rw (p.1, p.2) (λ shape. then_goes _ c.in_ok-base.ensures
    (then_goes _ c.in_ok-chp.ensures
    (then_goes _ c.in_ok-flags.ensures
    (then_goes _ c.in_ok-grfstd.ensures
    (then_lost _ (rw shape at c.in_err-name.ensures))))))

pub returns : goal.returns
returns c =
    then_goes _ c.in_ok-base.ensures
    (then_goes _ c.in_ok-chp.ensures
    (then_goes _ c.in_ok-flags.ensures
    (then_goes _ c.in_ok-grfstd.ensures
    (then_goes _ c.in_ok-name.ensures
    refl))))
