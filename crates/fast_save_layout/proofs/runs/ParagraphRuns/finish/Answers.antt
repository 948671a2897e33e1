use Rattle.std.proofs.Common.{[], ◌∷◌, ◌++◌, ◌+◌, ap, ◌∙◌}
use Rattle.prop_map.specs.Settings.{Properties}
use Rattle.fast_save_layout.proofs.MarkSteps.{all_ended, rest_ended}
use Rattle.fast_save_layout.proofs.runs.ParagraphRuns.finish.Goals as goal

pub returns-then-from-end : goal.returns-then-from-end
returns-then-from-end c = λ at done here so. all_ended at c.args.end done c.args.self here c.if-from-end.true so

pub returns : goal.returns
returns c = λ at done here so.
    let runs = c.args.self in
    let none = ap
    (λ (map : Properties).
    runs.closed ++ (record { from = c.begin-begin.result; to = c.args.end + 2; istd = 0; map = map }) ∷ [])
    c.new.ensures in
    rest_ended at c.args.end c.begin-begin.result done runs c.add.new.self here c.if-from-end.false
    c.begin-begin.ensures (c.in_ok-add.ensures.ok ∙ none) so
