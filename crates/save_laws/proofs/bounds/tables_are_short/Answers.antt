use Rattle.save_laws.proofs.TableLemmas.{tables_are_short}
use Rattle.save_laws.proofs.bounds.tables_are_short.Goals as goal

pub returns : goal.returns
returns c = tables_are_short
