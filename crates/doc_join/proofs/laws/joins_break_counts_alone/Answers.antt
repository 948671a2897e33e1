use Rattle.doc_join.proofs.BrokenRuleLemmas.{break_counts_alone}
use Rattle.doc_join.proofs.laws.joins_break_counts_alone.Goals as goal

pub returns : goal.returns
returns c = break_counts_alone
