use Rattle.doc_read.proofs.column_file.check_document.Goals as goal

pub returns-in-Ok : goal.returns-in-Ok
returns-in-Ok c = record { rules = c.in-Ok.ensures; bookmarks = c.requires }
