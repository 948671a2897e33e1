use Rattle.fkp_pages.proofs.LongerLemmas.{longer_tables_name_both}
use Rattle.fkp_pages.proofs.page_laws.longer_tables_name_both.Goals as goal

pub returns : goal.returns
returns c = longer_tables_name_both
