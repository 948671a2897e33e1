use Rattle.fast_save.proofs.OpenLemmas.{no_cfb_fault}
use Rattle.fast_save.proofs.full_parts.load.Goals as goal

pub unreachable-requires : goal.unreachable-requires
unreachable-requires c =
    no_cfb_fault c.args.file.now c.in-Err-Rule.field-0 c.in-Err-Rule.field-0-0 c.in-Err-Rule.field-0-1 c.requires
    c.in-Err-Rule.ensures c.in-Err-Rule.field-0-is
