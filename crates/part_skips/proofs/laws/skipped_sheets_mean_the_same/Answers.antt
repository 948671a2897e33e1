use Rattle.part_skips.proofs.SheetLemmas.{sheet_skips}
use Rattle.part_skips.proofs.laws.skipped_sheets_mean_the_same.Goals as goal

pub returns : goal.returns
returns c = sheet_skips
