use Rattle.std.proofs.Common.{arith}
use Rattle.fkp_pages.proofs.RunsTested.{touch_test}
use Rattle.fkp_pages.proofs.writable.touches_last.Goals as goal

pub returns : goal.returns
returns c = touch_test c.args.runs.now c.args.i c.index-runs-i.result c.index-runs-i-2.result (omega arith) c.requires
