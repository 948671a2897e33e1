use Rattle.field_links.proofs.AnchorLemmas.{differ}
use Rattle.field_links.proofs.laws.anchors_differ.Goals as goal

pub returns : goal.returns
returns c = differ
