use Rattle.session_text.proofs.SectionLemmas.{bookmarks_stay}
use Rattle.session_text.proofs.session_laws.bookmarks_stay.Goals as goal

pub returns : goal.returns
returns c = bookmarks_stay
