use Rattle.std.proofs.Common.{◌++◌, sym, ap, ◌∙◌}
use Rattle.edit_script.proofs.StoryLemmas.{lacks_prefix, has_prefix}
use Rattle.edit_script.proofs.stories.number_behind.Goals as goal

pub returns-in-None : goal.returns-in-None
returns-in-None c = lacks_prefix c.args.prefix.now c.args.word.now c.in-None.ensures.cases

pub returns-in-Some : goal.returns-in-Some
returns-in-Some c =
    let found = c.in-Some.ensures.cases in
    c.written_number.ensures
    ∙ has_prefix c.args.prefix.now c.args.word.now c.in-Some.digits.now (found.1.1 ∙ ap (λ rest. c.args.prefix.now ++
    rest) (sym found.2))
