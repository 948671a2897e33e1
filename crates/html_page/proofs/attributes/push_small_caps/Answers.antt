use Rattle.std.proofs.Common.{refl, sym}
use Rattle.std.specs.Prelude.{codes}
use Rattle.std.specs.Fmt.{decimal}
use Rattle.html_text.specs.Tokens.{printed}
use Rattle.html_page.specs.Pages.{other_tokens}
use Rattle.view_places.specs.declared.glyph.Glyph.TheVariants.{NoteMark}
use Rattle.html_page.proofs.PutLemmas.{ascii_all, printed-decimal, put_as}
use Rattle.html_page.proofs.attributes.push_small_caps.Goals as goal

pub push_ascii-requires : goal.push_ascii-requires
push_ascii-requires g c = ascii_all (codes " style=\"font-variant:small-caps\"") refl

pub returns : goal.returns
returns g c = c.push_ascii.ensures
