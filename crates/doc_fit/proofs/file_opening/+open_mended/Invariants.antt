use Rattle.doc_fit.proofs.file_opening.+open_mended.Given as goal

-- the mends that may follow
abbrev pub decreases-open_mended : goal.decreases-open_mended
decreases-open_mended l = l.most
