use Rattle.std.proofs.Common.{sym, arith}
use Rattle.std.specs.Prelude.{codes}
use Rattle.fib_versions.specs.PartNames.{all_names}
use Rattle.fib_versions.proofs.part_names.part_name.Goals as goal
use Rattle.doc_bits.proofs.Public.{get_or-behind}

pub returns-else-n-lt183 : goal.returns-else-n-lt183
returns-else-n-lt183 c = sym (get_or-behind all_names c.args.n (codes "Unknown") (omega arith))
