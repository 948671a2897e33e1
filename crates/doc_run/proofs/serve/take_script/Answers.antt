use Rattle.std.proofs.Common.{◌≡◌, ◌∙◌}
use Rattle.std.specs.Prelude.{IfOk}
use Rattle.std.proofs.lemmas.Result.{IfOk-weaker}
use Rattle.run_stages.specs.Reading.{IsFileStage}
use Rattle.run_stages.proofs.Public.{taken_weaker}
use Rattle.doc_run.specs.Edits.{IsOverlongScript}
use Rattle.doc_run.proofs.serve.take_script.Goals as goal

pub returns-clause-is : goal.returns-clause-is
returns-clause-is g c =
    let name = c.args.script.now in
    let held = g.S.Shelf.held c.args.shelf.now in
    let overlong = c.in_ok-overlong.overlong in
    IfOk-weaker c.take_whole.result (λ t. IsFileStage name held (λ o. o ≡ overlong) t)
    (λ t. IsFileStage name held IsOverlongScript t)
    (λ t is. taken_weaker name held (λ o. o ≡ overlong) IsOverlongScript t (λ o e. e ∙ c.in_ok-overlong.ensures) is)
    c.take_whole.ensures.is
