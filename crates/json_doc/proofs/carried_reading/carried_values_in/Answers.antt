use Rattle.std.proofs.Common.{◌≡◌, Some, None, subst, sym}
use Rattle.std.specs.Prelude.{MatchResult}
use Rattle.serde_json.specs.View.{view}
use Rattle.edit_script.specs.declared.faults.ShapeError.TheVariants.{Shape}
use Rattle.std.proofs.lemmas.Result.{err_from_is_err_and}
use Rattle.json_doc.specs.CarriedGroups.{carried_row}
use Rattle.json_doc.proofs.RowLemmas.{then_goes}
use Rattle.json_doc.proofs.carried_reading.carried_values_in.Goals as goal

pub returns-in_err-front : goal.returns-in_err-front
returns-in_err-front c =
    let p = err_from_is_err_and c.from_residual-in_err-front.result c.from_residual-in_err-front.ensures.1 in
    rw (p.1, p.2) (λ shape. then_goes carried_row c.in_ok-row.ensures (c.in_err-front.ensures shape))

pub returns : goal.returns
returns c =
    subst (λ found. MatchResult c.carried_behind.result (λ parts. found ≡ Some (parts.0, view parts.1.now))
    (λ fault. fault ≡ Shape → found ≡ None)) (sym (then_goes carried_row c.in_ok-row.ensures c.in_ok-front.ensures))
    c.carried_behind.ensures
