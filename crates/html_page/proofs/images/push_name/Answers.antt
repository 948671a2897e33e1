use Rattle.std.proofs.Common.{◌∙◌, ◌++◌, ◌∷◌, []}
use Rattle.std.specs.Prelude.{codes}
use Rattle.std.specs.Fmt.{decimal}
use Rattle.doc_pictures.specs.Names.{suffix_of}
use Rattle.html_page.proofs.PutLemmas.{ascii_all, four_put, put_as}
use Rattle.html_page.proofs.images.push_name.Goals as goal

pub returns : goal.returns
returns g c =
    let name = c.args.name in
    let one = c.push_ascii in
    let two = c.push_number in
    let three = c.push_ascii-2 in
    let four = c.push_ascii-3 in
    four_put g.K.Sink c.args.out.now one.new.out two.new.out three.new.out four.new.out c.args.page.now one.new.self
    two.new.self three.new.self four.new.self (codes "/picture-") (decimal name.number) (codes ".")
    (suffix_of name.kind) one.ensures two.ensures three.ensures
    (put_as g.K.Sink three.new.out four.new.out three.new.self four.new.self c.as_bytes.result.now (suffix_of name.kind)
    (c.as_bytes.ensures.value ∙ c.suffix_of.ensures.is) four.ensures)
