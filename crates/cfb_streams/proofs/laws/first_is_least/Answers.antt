use Rattle.std.proofs.Common.{◌≤◌}
use Rattle.doc_bits.proofs.Public.{least_of_all}
use Rattle.cfb_streams.specs.Container.{container_rules}
use Rattle.cfb_streams.proofs.SingleLemmas.{container_single, container_ascends}
use Rattle.cfb_streams.proofs.laws.first_is_least.Goals as goal

pub returns : goal.returns
returns c = λ file number place first. least_of_all (λ a b. a ≤ b) (container_rules file) 1 15 number place
    (container_single file) (container_ascends file) first
