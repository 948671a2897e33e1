use Rattle.cfb_layout.specs.Sectors.{filled}
use Rattle.full_save.proofs.word_document.WordBody.stream.Goals as goal

pub returns : goal.returns
unfolding filled
returns c = cc (c.in_ok-push_zeros.ensures, c.in_ok-push_all.ensures.ok, c.in_ok-stream.ensures, c.as_slice-len.ensures)
