use Rattle.doc_join.proofs.joining.check_joined.Goals as goal

pub returns-in-Ok : goal.returns-in-Ok
returns-in-Ok c = record { rules = c.in-Ok.ensures; bookmarks = c.requires }
