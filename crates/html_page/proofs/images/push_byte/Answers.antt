use Rattle.std.proofs.Common.{◌∙◌, ◌∷◌, [], true, false, refl, sym}
use Rattle.html_text.specs.Tokens.{Character, escaped_text, printed}
use Rattle.html_page.specs.Images.{coded_byte, path_byte}
use Rattle.html_page.proofs.PathLemmas.{byte-text}
use Rattle.html_page.proofs.PutLemmas.{put_as}
use Rattle.html_page.proofs.images.push_byte.Goals as goal

pub returns-then-is_path_byte : goal.returns-then-is_path_byte
returns-then-is_path_byte g c =
    let put = c.push_character in
    let byte = c.args.byte in
    let text = printed (Character byte ∷ []) in
    put_as g.K.Sink c.args.out.now put.new.out c.args.page.now put.new.page text (escaped_text (path_byte byte))
    (byte-text byte true text (sym c.is_path_byte.ensures ∙ c.if-is_path_byte.true) refl) put.ensures

pub returns : goal.returns
returns g c =
    let put = c.push_coded in
    let byte = c.args.byte in
    let text = escaped_text (coded_byte byte) in
    put_as g.K.Sink c.args.out.now put.new.out c.args.page.now put.new.page text (escaped_text (path_byte byte))
    (byte-text byte false text (sym c.is_path_byte.ensures ∙ c.if-is_path_byte.false) refl) put.ensures
