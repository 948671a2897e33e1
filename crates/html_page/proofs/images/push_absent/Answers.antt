use Rattle.std.proofs.Common.{refl}
use Rattle.std.specs.Prelude.{codes}
use Rattle.html_page.proofs.PutLemmas.{ascii_all}
use Rattle.html_page.proofs.images.push_absent.Goals as goal

pub push_ascii-requires : goal.push_ascii-requires
push_ascii-requires g c = ascii_all (codes "<span role=\"img\" aria-label=\"picture\">[picture]</span>") refl

pub returns : goal.returns
returns g c = c.push_ascii.ensures
