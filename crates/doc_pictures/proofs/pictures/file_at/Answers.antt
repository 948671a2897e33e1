use Rattle.doc_pictures.proofs.pictures.file_at.Goals as goal

pub returns-in-None : goal.returns-in-None
returns-in-None c = λ file has. c.in-None.ensures.picture file has.picture
