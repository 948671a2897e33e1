use Rattle.plain_doc.proofs.rules_sheet.are_valid_styles.Goals as goal

pub returns-in-None : goal.returns-in-None
returns-in-None c = λ _. c.in-None.ensures
