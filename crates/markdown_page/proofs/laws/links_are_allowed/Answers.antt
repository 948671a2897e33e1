use Rattle.markdown_page.proofs.AllowedLemmas.{links_allowed}
use Rattle.markdown_page.proofs.laws.links_are_allowed.Goals as goal

pub returns : goal.returns
returns c = links_allowed
