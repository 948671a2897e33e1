use Rattle.fkp_pages.proofs.BinLemmas.{bin_page_one}
use Rattle.fkp_pages.proofs.laws.bin_page_is_one.Goals as goal

pub returns : goal.returns
returns c = bin_page_one
