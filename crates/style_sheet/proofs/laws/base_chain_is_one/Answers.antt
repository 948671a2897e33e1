use Rattle.style_sheet.proofs.OneChainLemmas.{base_chains_agree}
use Rattle.style_sheet.proofs.laws.base_chain_is_one.Goals as goal

pub returns : goal.returns
returns c = base_chains_agree
