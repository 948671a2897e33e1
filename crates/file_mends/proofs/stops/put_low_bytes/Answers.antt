use Rattle.file_mends.proofs.StopsLemmas.{low_step}
use Rattle.file_mends.proofs.stops.put_low_bytes.Goals as goal
