use Rattle.std.proofs.Common.{arith}
use Rattle.prop_map.specs.Formed.{character_groups}
use Rattle.doc_columns.proofs.judge.is_short_run.Goals as goal

pub printed_len-requires : goal.printed_len-requires
printed_len-requires c = (character_groups, c.requires (omega arith))
