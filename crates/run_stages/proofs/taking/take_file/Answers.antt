use Rattle.std.proofs.Common.{◌≡◌, ◌∙◌}
use Rattle.std.proofs.lemmas.Result.{IfOk-weaker}
use Rattle.run_stages.specs.Stages.{BreaksLengthRule}
use Rattle.run_stages.specs.Reading.{IsFileStage}
use Rattle.run_stages.proofs.StageLemmas.{taken_weaker}
use Rattle.run_stages.proofs.taking.take_file.Goals as goal

pub returns-clause-is : goal.returns-clause-is
returns-clause-is g c =
    let name = c.args.name.now in
    let held = g.S.Shelf.held c.args.shelf.now in
    let overlong = c.in_ok-overlong.overlong in
    IfOk-weaker c.take_whole.result (λ t. IsFileStage name held (λ o. o ≡ overlong) t)
    (λ t. IsFileStage name held (BreaksLengthRule name) t)
    (λ t is. taken_weaker name held (λ o. o ≡ overlong) (BreaksLengthRule name) t
    (λ o e. e ∙ c.in_ok-overlong.ensures) is) c.take_whole.ensures.is
