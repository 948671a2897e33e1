use Rattle.inline_pictures.proofs.PictureLemmas.{picture-unique}
use Rattle.inline_pictures.proofs.laws.inline_picture_is_one.Goals as goal

pub returns : goal.returns
returns c = picture-unique
