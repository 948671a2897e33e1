use Rattle.fast_save.proofs.ResultLemmas.{fib_is_read}
use Rattle.fast_save.proofs.full_parts.read_fib.Goals as goal

pub unwrap-requires : goal.unwrap-requires
unwrap-requires c = fib_is_read c.args.wd.now c.read.result c.requires c.read.ensures
