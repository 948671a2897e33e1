use Rattle.save_laws.proofs.SizeLemmas.{sepx_is_short}
use Rattle.save_laws.proofs.bounds.sepx_is_short.Goals as goal

pub returns : goal.returns
returns c = sepx_is_short
