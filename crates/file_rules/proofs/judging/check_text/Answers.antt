use Rattle.file_rules.proofs.judging.check_text.Goals as goal

pub returns : goal.returns
returns c = rw c.source-source.ensures at c.check_parts.ensures
