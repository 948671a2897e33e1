use Rattle.style_sheet.proofs.SheetBackLemmas.{sheet_back}
use Rattle.style_sheet.proofs.laws.sheet_is_read_back.Goals as goal

pub returns : goal.returns
returns c = sheet_back
