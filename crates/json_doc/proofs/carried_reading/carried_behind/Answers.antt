use Rattle.std.proofs.Common.{◌≡◌, Some, None, subst, sym}
use Rattle.std.specs.Prelude.{MatchResult}
use Rattle.serde_json.specs.View.{view}
use Rattle.edit_script.specs.declared.faults.ShapeError.TheVariants.{Shape}
use Rattle.json_doc.proofs.carried_reading.carried_behind.Goals as goal

pub returns-in-Ok : goal.returns-in-Ok
returns-in-Ok c =
    subst (λ found. MatchResult c.carried_with.result (λ parts. found ≡ Some (parts.0, view parts.1.now))
    (λ fault. fault ≡ Shape → found ≡ None)) (sym (c.in-Ok.ensures c.args.front)) c.carried_with.ensures

pub returns-in-Err : goal.returns-in-Err
returns-in-Err c = λ shape. c.in-Err.ensures shape c.args.front
