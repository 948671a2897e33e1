use Rattle.json_doc.proofs.reading.verdict_on.Goals as goal

pub returns-in-Ok : goal.returns-in-Ok
returns-in-Ok c = record { rules = c.in-Ok.ensures; bookmarks = c.requires }
