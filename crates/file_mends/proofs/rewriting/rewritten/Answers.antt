use Rattle.file_mends.proofs.RewrittenLemmas.{rewritten_step}
use Rattle.file_mends.proofs.rewriting.rewritten.Goals as goal
