use Rattle.file_mends.proofs.StopsLemmas.{all_others, more_others, stream_named}
use Rattle.file_mends.proofs.file_streams.named_stream.Goals as goal
