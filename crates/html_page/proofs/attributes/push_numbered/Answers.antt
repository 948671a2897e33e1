use Rattle.std.proofs.Common.{◌++◌, ◌∷◌, [], List, ℕ, ap, append_assoc}
use Rattle.std.specs.Prelude.{codes, nat_le, if◌then◌else◌}
use Rattle.std.specs.Fmt.{decimal}
use Rattle.page_out.proofs.Public.{put_then, three_put}
use Rattle.html_page.proofs.PutLemmas.{put_as, value_pieces, optional_text, paragraph_pieces}
use Rattle.html_page.specs.Tags.{attribute, plain_attributes, attributes_text, paragraph_attributes}
use Rattle.view_places.specs.declared.element.Element.TheVariants.{Note, Reference, BackLink}
use Rattle.view_places.specs.declared.element.Element.TheVariants.{List as ListElement}
use Rattle.html_page.proofs.attributes.push_numbered.Goals as goal

pub returns : goal.returns
returns g c =
    put_then g.K.Sink c.args.out.now c.push_ascii.new.out c.push_number.new.out c.args.page.now c.push_ascii.new.self
    c.push_number.new.self (c.args.front.now) (decimal c.args.number) c.push_ascii.ensures c.push_number.ensures
