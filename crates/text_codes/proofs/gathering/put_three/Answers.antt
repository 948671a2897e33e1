use Rattle.text_codes.proofs.BlockLemmas.{take-three_set}
use Rattle.text_codes.proofs.gathering.put_three.Goals as goal

pub returns-clause-bytes : goal.returns-clause-bytes
returns-clause-bytes c = take-three_set _ _ _ _ _ c.requires
