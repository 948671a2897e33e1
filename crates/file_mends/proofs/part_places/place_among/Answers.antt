use Rattle.file_mends.proofs.PlaceLemmas.{none_among}
use Rattle.file_mends.proofs.part_places.place_among.Goals as goal
