use Rattle.field_links.proofs.UrlLemmas.{allowed}
use Rattle.field_links.proofs.laws.links_are_allowed.Goals as goal

pub returns : goal.returns
returns c = allowed
