use Rattle.std.proofs.Common.{[], ◌∷◌, ◌++◌, ap, ◌∙◌}
use Rattle.prop_map.specs.Settings.{Properties}
use Rattle.full_save.proofs.SoFarLemmas.{paragraphs_none_left, paragraphs_left}
use Rattle.full_save.proofs.runs.ParagraphRuns.finish.Goals as goal

pub returns-then-from-end : goal.returns-then-from-end
returns-then-from-end c = λ at done here so. paragraphs_none_left at c.args.end done c.args.self here
    c.if-from-end.true so

pub returns : goal.returns
returns c = λ at done here so.
    let runs = c.args.self in
    let none = ap
    (λ (map : Properties). runs.closed ++ (record { from = runs.from; to = c.args.end; istd = 0; map = map }) ∷ [])
    c.new.ensures in
    paragraphs_left at c.args.end done runs c.add.new.self here c.if-from-end.false (c.in_ok-add.ensures.ok ∙ none) so
