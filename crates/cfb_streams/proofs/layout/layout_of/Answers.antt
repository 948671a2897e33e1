use Rattle.std.proofs.Common.{◌≤◌, subst}
use Rattle.doc_bits.proofs.Public.{hold_or_first}
use Rattle.cfb_sectors.specs.Judged.{IsCfbFault}
use Rattle.cfb_streams.specs.Container.{container_rules}
use Rattle.cfb_streams.proofs.SingleLemmas.{container_single}
use Rattle.cfb_streams.proofs.layout.layout_of.Goals as goal

-- a file that holds all rules is refused by none
pub unreachable-requires : goal.unreachable-requires
unreachable-requires c =
    let rules = container_rules c.args.file.now in
    hold_or_first (λ a b. a ≤ b) rules c.in-Err-Rule.field-0-0 c.in-Err-Rule.field-0-1
    (container_single c.args.file.now) c.requires (subst (IsCfbFault rules) c.in-Err-Rule.field-0-is
    c.in-Err-Rule.ensures)
