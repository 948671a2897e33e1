use Rattle.std.proofs.Common.{◌++◌, ◌∷◌, []}
use Rattle.page_out.proofs.Public.{three_put}
use Rattle.html_text.specs.Tokens.{Character, escaped_text, printed}
use Rattle.html_page.specs.Images.{coded_byte}
use Rattle.html_page.proofs.PathLemmas.{coded-text}
use Rattle.html_page.proofs.PutLemmas.{put_as}
use Rattle.html_page.proofs.images.push_coded.Goals as goal

pub returns : goal.returns
returns g c =
    let one = c.push_character in
    let two = c.push_character-2 in
    let three = c.push_character-3 in
    let high = c.upper_hex_digit.result in
    let low = c.upper_hex_digit-2.result in
    let first = printed (Character 37 ∷ []) in
    let second = printed (Character high ∷ []) in
    let third = printed (Character low ∷ []) in
    put_as g.K.Sink c.args.out.now three.new.out c.args.page.now three.new.page (first ++ (second ++ third))
    (escaped_text (coded_byte c.args.byte))
    (coded-text c.args.byte high low c.upper_hex_digit.ensures c.upper_hex_digit-2.ensures)
    (three_put g.K.Sink c.args.out.now one.new.out two.new.out three.new.out c.args.page.now one.new.page two.new.page
    three.new.page first second third one.ensures two.ensures three.ensures)
