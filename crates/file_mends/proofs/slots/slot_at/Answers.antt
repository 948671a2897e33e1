use Rattle.tab_stops.proofs.Public.{next_slot}
use Rattle.file_mends.proofs.SlotLemmas.{no_slot}
use Rattle.file_mends.proofs.slots.slot_at.Goals as goal
