use Rattle.style_sheet.proofs.ExistSheet.{parts_hold_sheets}
use Rattle.style_sheet.proofs.laws.parts_hold_sheets.Goals as goal

pub returns : goal.returns
returns c = parts_hold_sheets
