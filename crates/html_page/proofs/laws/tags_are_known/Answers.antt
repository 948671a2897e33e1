use Rattle.html_page.proofs.KnownLemmas.{tags_known}
use Rattle.html_page.proofs.laws.tags_are_known.Goals as goal

pub returns : goal.returns
returns c = tags_known
