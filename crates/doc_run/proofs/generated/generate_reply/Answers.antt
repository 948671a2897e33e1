use Rattle.std.proofs.Common.{rules}
use Rattle.doc_run.proofs.GenerateLemmas.{generated_made}
use Rattle.doc_run.proofs.generated.generate_reply.Goals as goal

pub returns : goal.returns
returns c = generated_made c.args.seed c.in_ok-image.field-0 _ c.in_ok-image.ensures (search rules)
