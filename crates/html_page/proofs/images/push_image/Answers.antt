use Rattle.std.proofs.Common.{◌++◌, List, ℕ, Some, refl, ap}
use Rattle.std.specs.Prelude.{codes}
use Rattle.html_text.specs.Tokens.{escaped_text, printed}
use Rattle.html_page.specs.Images.{path_url}
use Rattle.html_page.specs.Pages.{picture_tokens}
use Rattle.html_page.proofs.PathLemmas.{image-text, name_text}
use Rattle.html_page.proofs.PutLemmas.{ascii_all, four_put, put_as}
use Rattle.html_page.proofs.images.push_image.Goals as goal

pub push_ascii-requires : goal.push_ascii-requires
push_ascii-requires g c = ascii_all (codes "<img src=\"") refl

pub push_ascii-requires-2 : goal.push_ascii-requires-2
push_ascii-requires-2 g c = ascii_all (codes "\" alt=\"\">") refl

pub returns : goal.returns
returns g c =
    let folder = c.args.folder.now in
    let name = c.args.name in
    let one = c.push_ascii in
    let two = c.push_path in
    let three = c.push_name in
    let four = c.push_ascii-2 in
    let front = escaped_text (path_url folder) in
    let last = codes "\" alt=\"\">" in
    put_as g.K.Sink c.args.out.now four.new.out c.args.page.now four.new.self
    (codes "<img src=\"" ++ (front ++ (name_text name ++ last))) (printed (picture_tokens folder (Some name)))
    (image-text folder name)
    (four_put g.K.Sink c.args.out.now one.new.out two.new.out three.new.out four.new.out c.args.page.now one.new.self
    two.new.page three.new.page four.new.self (codes "<img src=\"") front (name_text name) last one.ensures
    (put_as g.K.Sink one.new.out two.new.out one.new.self two.new.page (escaped_text (path_url c.as_bytes.result.now)) front
    (ap (λ (path : List ℕ). escaped_text (path_url path)) c.as_bytes.ensures.value) two.ensures) three.ensures four.ensures)
