use Rattle.save_laws.proofs.BinLemmas.{longer_tables_are_short}
use Rattle.save_laws.proofs.bounds.longer_tables_are_short.Goals as goal

pub returns : goal.returns
returns c = longer_tables_are_short
