use Rattle.file_rules.proofs.JudgedLemmas.{none_judged}
use Rattle.file_rules.proofs.sections.JudgedSepxs.new.Goals as goal

pub returns : goal.returns
returns c = λ wd. rw (c.new.ensures, c.new-2.ensures.items) (none_judged wd)
