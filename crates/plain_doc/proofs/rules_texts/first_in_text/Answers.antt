use Rattle.plain_doc.proofs.rules_texts.first_in_text.Goals as goal

pub returns-in-Fields : goal.returns-in-Fields
returns-in-Fields c = rw c.in-Fields.is c.wrong_field.ensures
