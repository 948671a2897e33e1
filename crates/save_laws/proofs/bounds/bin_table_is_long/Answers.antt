use Rattle.save_laws.proofs.BinLemmas.{bin_table_is_long}
use Rattle.save_laws.proofs.bounds.bin_table_is_long.Goals as goal

pub returns : goal.returns
returns c = bin_table_is_long
