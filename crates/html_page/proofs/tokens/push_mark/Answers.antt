use Rattle.std.proofs.Common.{refl, sym}
use Rattle.std.specs.Prelude.{codes}
use Rattle.std.specs.Fmt.{decimal}
use Rattle.html_text.specs.Tokens.{printed}
use Rattle.html_page.specs.Pages.{characters}
use Rattle.html_page.proofs.PutLemmas.{ascii_all, printed-decimal, put_as}
use Rattle.html_page.proofs.tokens.push_mark.Goals as goal

pub returns : goal.returns
returns g c =
    put_as g.K.Sink c.args.out.now c.push_number.new.out c.args.page.now c.push_number.new.self (decimal
    c.args.number) (printed
    (characters (decimal c.args.number))) (sym (printed-decimal c.args.number)) c.push_number.ensures
