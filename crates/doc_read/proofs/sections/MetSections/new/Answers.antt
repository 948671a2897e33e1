use Rattle.doc_read.proofs.SettingsLemmas.{no_sections}
use Rattle.doc_read.proofs.sections.MetSections.new.Goals as goal

pub returns : goal.returns
returns c = λ wd. rw (c.new.ensures, c.new-2.ensures.items) (no_sections wd)
