use Rattle.std.proofs.Common.{◌++◌, ◌∷◌, [], List, ℕ, ap, append_assoc, refl}
use Rattle.std.specs.Prelude.{codes, nat_le, if◌then◌else◌}
use Rattle.std.specs.Fmt.{decimal}
use Rattle.page_out.proofs.Public.{put_then, three_put}
use Rattle.html_page.proofs.PutLemmas.{put_as, value_pieces, optional_text, paragraph_pieces}
use Rattle.html_page.specs.Tags.{attribute, plain_attributes, attributes_text, paragraph_attributes}
use Rattle.view_places.specs.declared.element.Element.TheVariants.{Note, Reference, BackLink}
use Rattle.view_places.specs.declared.element.Element.TheVariants.{List as ListElement}
use Rattle.html_page.proofs.PutLemmas.{ascii_all}
use Rattle.html_page.proofs.attributes.push_paragraph.Goals as goal

pub returns : goal.returns
returns g c =
    let p = c.args.paragraph in
    let level : List ℕ = if nat_le 7 p.level then 32 ∷ attribute (codes "aria-level") (decimal p.level) else [] in
    let rtl : List ℕ = if p.right_to_left then codes " dir=\"rtl\"" else [] in
    let break : List ℕ = if p.breaks_page then codes " style=\"break-before:page\"" else [] in
    put_as g.K.Sink c.args.out.now c.push_where-2.new.out c.args.page.now c.push_where-2.new.page (level ++ (rtl ++
    break))
    (attributes_text (paragraph_attributes p)) (paragraph_pieces p)
    (three_put g.K.Sink c.args.out.now c.push_level.new.out c.push_where.new.out c.push_where-2.new.out
    c.args.page.now c.push_level.new.page c.push_where.new.page c.push_where-2.new.page (level) (rtl) (break)
    c.push_level.ensures c.push_where.ensures c.push_where-2.ensures)

pub push_where-requires-2 : goal.push_where-requires-2
push_where-requires-2 g c = ascii_all (codes " style=\"break-before:page\"") refl
