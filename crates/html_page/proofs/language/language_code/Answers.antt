use Rattle.std.proofs.Common.{refl, ◌*◌, ◌+◌}
use Rattle.html_page.specs.Languages.{language_codes}
use Rattle.html_page.proofs.PutLemmas.{ascii_slice}
use Rattle.html_page.proofs.language.language_code.Goals as goal

pub returns-clause-ascii : goal.returns-clause-ascii
returns-clause-ascii c = ascii_slice language_codes (2 * c.args.number) (2 * c.args.number + 2) refl
