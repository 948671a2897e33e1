use Rattle.fkp_pages.proofs.RowLemmas.{row_is_printable}
use Rattle.fkp_pages.proofs.page_laws.row_is_printable.Goals as goal

pub returns : goal.returns
returns c = row_is_printable
