use Rattle.std.proofs.Common.{arith}
use Rattle.file_rules.proofs.sections.sepx_place.Goals as goal

pub returns : goal.returns
returns c = record { from = omega arith; to = omega arith }
