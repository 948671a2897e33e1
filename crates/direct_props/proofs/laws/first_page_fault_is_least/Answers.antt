use Rattle.std.proofs.Common.{◌≤◌}
use Rattle.doc_bits.proofs.Public.{least_of_all}
use Rattle.direct_props.specs.PageRules.{page_rules}
use Rattle.direct_props.proofs.LawLemmas.{page_rules-IsSingle, page_rules-Ascends, low_rule, high_rule}
use Rattle.direct_props.proofs.laws.first_page_fault_is_least.Goals as goal

pub returns : goal.returns
returns c = λ kind wd bin places r p first.
    least_of_all (λ a b. a ≤ b) (page_rules kind wd bin places) (low_rule kind) (high_rule kind) r p
    (page_rules-IsSingle kind wd bin places) (page_rules-Ascends kind wd bin places) first
