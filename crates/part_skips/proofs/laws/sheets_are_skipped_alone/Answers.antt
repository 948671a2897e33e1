use Rattle.part_skips.proofs.OneLemmas.{sheet_one}
use Rattle.part_skips.proofs.laws.sheets_are_skipped_alone.Goals as goal

pub returns : goal.returns
returns c = sheet_one
