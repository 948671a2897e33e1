use Rattle.doc_fit.proofs.ReadAsLemmas.{first_mended}
use Rattle.doc_fit.proofs.file_opening.mend_first.Goals as goal

pub returns-in_ok-mend-in-Refused : goal.returns-in_ok-mend-in-Refused
returns-in_ok-mend-in-Refused c =
    let refused = c.in-Refused in
    first_mended c.args.file.now c.args.mended.now c.mend_rule.new.mended refused.rule (refused.place, refused.offset)
    c.in_ok-mend-in-Refused.mend c.requires.bytes (rw refused.is at c.requires.refused) c.in_ok-mend-in-Refused.ensures
