use Rattle.std.proofs.Common.{◌++◌, ◌∷◌, []}
use Rattle.std.specs.Prelude.{codes}
use Rattle.page_out.proofs.Public.{three_put}
use Rattle.html_page.specs.Languages.{language_code}
use Rattle.html_page.proofs.PutLemmas.{put_as}
use Rattle.html_page.proofs.language.push_code.Goals as goal

pub returns : goal.returns
returns g c =
    three_put g.K.Sink c.args.out.now c.push_ascii.new.out c.push_ascii-2.new.out c.push_ascii-3.new.out
    c.args.page.now c.push_ascii.new.self c.push_ascii-2.new.self c.push_ascii-3.new.self (codes " lang=\"")
    (language_code c.args.number) (34 ∷ []) c.push_ascii.ensures (put_as g.K.Sink c.push_ascii.new.out
    c.push_ascii-2.new.out c.push_ascii.new.self c.push_ascii-2.new.self c.language_code.result.now (language_code
    c.args.number) c.language_code.ensures.is c.push_ascii-2.ensures) c.push_ascii-3.ensures
