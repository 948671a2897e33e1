use Rattle.std.proofs.Common.{◌≤◌}
use Rattle.doc_bits.proofs.Public.{hold_or_first}
use Rattle.cfb_streams.specs.Container.{container_rules}
use Rattle.cfb_streams.proofs.SingleLemmas.{container_single}
use Rattle.cfb_streams.proofs.laws.hold_or_first.Goals as goal

pub returns : goal.returns
returns c = λ file number place holds first. hold_or_first (λ a b. a ≤ b) (container_rules file) number place
    (container_single file) holds first
