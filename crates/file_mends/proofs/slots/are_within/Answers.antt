use Rattle.tab_stops.proofs.Public.{next_slot}
use Rattle.file_mends.proofs.slots.are_within.Goals as goal
