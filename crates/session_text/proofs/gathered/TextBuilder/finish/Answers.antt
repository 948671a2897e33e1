use Rattle.std.proofs.Common.{arith}
use Rattle.doc_columns.proofs.Public.{length-items_of}
use Rattle.session_text.proofs.gathered.TextBuilder.finish.Goals as goal

pub from_parts-requires-clause-few : goal.from_parts-requires-clause-few
from_parts-requires-clause-few c =
    let own = c.self.inside in
    let are = c.self.invariant in
    let few = are.formed.few in
    omega (arith, few, length-items_of own.units.items own.chps own.attachments are.chps_long are.attachments_long)
