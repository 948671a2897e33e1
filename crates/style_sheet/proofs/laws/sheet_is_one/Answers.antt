use Rattle.style_sheet.proofs.UniqueLemmas.{sheets_agree}
use Rattle.style_sheet.proofs.laws.sheet_is_one.Goals as goal

pub returns : goal.returns
returns c = sheets_agree
