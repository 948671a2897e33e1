use Rattle.session_text.proofs.BlockLemmas.{blocks_stand}
use Rattle.session_text.proofs.session_laws.blocks_stand.Goals as goal

pub returns : goal.returns
returns c = blocks_stand
