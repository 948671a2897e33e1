use Rattle.file_mends.proofs.SheetLemmas.{none_in}
use Rattle.file_mends.proofs.sheet_places.sheet_for.Goals as goal
