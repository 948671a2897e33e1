use Rattle.full_save.proofs.SoFarLemmas.{characters_none_left, characters_left}
use Rattle.full_save.proofs.runs.CharacterRuns.finish.Goals as goal

pub returns-then-from-end : goal.returns-then-from-end
returns-then-from-end c = λ at done here so. characters_none_left at c.args.end done c.args.self here
    c.if-from-end.true so

pub returns : goal.returns
returns c = λ at done here so.
    characters_left at c.args.end done c.args.self c.add.new.self here c.if-from-end.false c.in_ok-add.ensures.ok so
