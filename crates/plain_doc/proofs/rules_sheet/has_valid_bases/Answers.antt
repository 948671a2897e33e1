use Rattle.plain_doc.proofs.rules_sheet.has_valid_bases.Goals as goal

pub returns-in-None : goal.returns-in-None
returns-in-None c = λ _. c.in-None.ensures.first
