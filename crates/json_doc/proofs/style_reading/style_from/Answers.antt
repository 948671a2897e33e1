use Rattle.std.proofs.Common.{refl}
use Rattle.std.proofs.lemmas.Result.{err_from_is_err_and}
use Rattle.json_doc.specs.StyleGroups.{style_with}
use Rattle.json_doc.proofs.RowLemmas.{gives_err, gives_lost, then_goes, then_lost}
use Rattle.json_doc.proofs.style_reading.style_from.Goals as goal

pub returns-in_err-kind : goal.returns-in_err-kind
returns-in_err-kind c =
    let p = err_from_is_err_and c.from_residual.result c.from_residual.ensures.1 in
    rw (p.1, p.2) (gives_err (style_with c.args.front c.args.back) c.in_err-kind.field-0.0
    (λ shape. then_lost _ (gives_lost c.in_err-kind.ensures shape)))

pub returns : goal.returns
returns c = then_goes _ c.in_ok-kind.ensures refl
