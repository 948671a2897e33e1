use Rattle.std.proofs.Common.{◌*◌, ◌+◌, ap}
use Rattle.doc_patch.proofs.places.head_number.Goals as goal

pub returns : goal.returns
returns c = ap (λ n. 6 + 6 * n) c.section_number.ensures.number
