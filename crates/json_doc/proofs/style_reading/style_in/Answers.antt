use Rattle.std.proofs.Common.{refl, subst, sym, ◌∙◌}
use Rattle.std.proofs.lemmas.Result.{err_from_is_err_and}
use Rattle.serde_json.specs.View.{view}
use Rattle.edit_script.specs.Json.{GivesReading}
use Rattle.json_doc.specs.StyleReading.{read_style_of}
use Rattle.json_doc.specs.StyleGroups.{style_row}
use Rattle.json_doc.proofs.RowLemmas.{gives_err, gives_lost, then_goes, then_lost}
use Rattle.json_doc.proofs.style_reading.style_in.Goals as goal

pub returns-in_err-row : goal.returns-in_err-row
returns-in_err-row c =
    let p = err_from_is_err_and c.from_residual.result c.from_residual.ensures.1 in
    rw (p.1, p.2) (gives_err (read_style_of (view c.args.value.now)) c.in_err-row.field-0.0 (λ shape. then_lost _
    c.in_err-row.ensures.1))

pub returns-in_err-front : goal.returns-in_err-front
returns-in_err-front c =
    let p = err_from_is_err_and c.from_residual-in_err-front.result c.from_residual-in_err-front.ensures.1 in
    rw (p.1, p.2) (gives_err (read_style_of (view c.args.value.now)) c.in_err-front.field-0.0 (λ shape. then_goes
    style_row
    c.in_ok-row.ensures (c.in_err-front.ensures shape)))

pub returns-in_err-back : goal.returns-in_err-back
returns-in_err-back c =
    let p = err_from_is_err_and c.from_residual-in_err-back.result c.from_residual-in_err-back.ensures.1 in
    rw (p.1, p.2) (gives_err (read_style_of (view c.args.value.now)) c.in_err-back.field-0.0 (λ shape. then_goes
    style_row
    c.in_ok-row.ensures (c.in_ok-front.ensures ∙ c.in_err-back.ensures shape c.in_ok-front.front)))

pub returns-in_err-end : goal.returns-in_err-end
returns-in_err-end c =
    let p = err_from_is_err_and c.from_residual-in_err-end.result c.from_residual-in_err-end.ensures.1 in
    rw (p.1, p.2) (gives_err (read_style_of (view c.args.value.now)) c.in_err-end.field-0.0 (λ shape. then_goes
    style_row
    c.in_ok-row.ensures (c.in_ok-front.ensures ∙ (c.in_ok-back.ensures c.in_ok-front.front
    ∙ then_lost _ (gives_lost c.in_err-end.ensures shape)))))

pub returns : goal.returns
returns c =
    subst (GivesReading c.style_from.result)
    (sym (then_goes style_row c.in_ok-row.ensures (c.in_ok-front.ensures ∙ (c.in_ok-back.ensures c.in_ok-front.front
    ∙ then_goes _ c.in_ok-end.ensures refl)))) c.style_from.ensures
