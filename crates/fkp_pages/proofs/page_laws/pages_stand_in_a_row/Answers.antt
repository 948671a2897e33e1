use Rattle.fkp_pages.proofs.RowLemmas.{pages_stand_in_a_row}
use Rattle.fkp_pages.proofs.page_laws.pages_stand_in_a_row.Goals as goal

pub returns : goal.returns
returns c = pages_stand_in_a_row
