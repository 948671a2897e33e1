use Rattle.std.proofs.Common.{◌++◌, ◌∷◌, [], List, ℕ, ap, append_assoc}
use Rattle.std.specs.Prelude.{codes, nat_le, if◌then◌else◌}
use Rattle.std.specs.Fmt.{decimal}
use Rattle.page_out.proofs.Public.{put_then, three_put}
use Rattle.html_page.proofs.PutLemmas.{put_as, value_pieces, optional_text, paragraph_pieces}
use Rattle.html_page.specs.Tags.{attribute, plain_attributes, attributes_text, paragraph_attributes}
use Rattle.view_places.specs.declared.element.Element.TheVariants.{Note, Reference, BackLink}
use Rattle.view_places.specs.declared.element.Element.TheVariants.{List as ListElement}
use Rattle.html_page.proofs.attributes.push_list.Goals as goal

pub returns : goal.returns
returns g c =
    let text = attribute (codes "style") (codes "list-style:none") in
    put_as g.K.Sink c.args.out.now c.push_where.new.out c.args.page.now c.push_where.new.page (if
    c.args.list.is_ordered then 32
    ∷ text else []) (attributes_text (plain_attributes (ListElement c.args.list))) (optional_text c.args.list.is_ordered
    text)
    c.push_where.ensures
