use Rattle.std.proofs.Common.{arith}
use Rattle.prop_map.proofs.PrintedLemmas.{length-printed_modifier}
use Rattle.prop_map.proofs.modifiers.Modifier.printed_len.Goals as goal

pub returns : goal.returns
returns c = let len = length-printed_modifier c.args.self.now in omega arith
