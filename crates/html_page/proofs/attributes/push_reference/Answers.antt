use Rattle.std.proofs.Common.{◌++◌, ◌∷◌, [], List, ℕ, ap, append_assoc}
use Rattle.std.specs.Prelude.{codes, nat_le, if◌then◌else◌}
use Rattle.std.specs.Fmt.{decimal}
use Rattle.page_out.proofs.Public.{put_then, three_put}
use Rattle.html_page.proofs.PutLemmas.{put_as, value_pieces, optional_text, paragraph_pieces}
use Rattle.html_page.specs.Tags.{attribute, plain_attributes, attributes_text, paragraph_attributes}
use Rattle.view_places.specs.declared.element.Element.TheVariants.{Note, Reference, BackLink}
use Rattle.view_places.specs.declared.element.Element.TheVariants.{List as ListElement}
use Rattle.html_page.proofs.attributes.push_reference.Goals as goal

pub returns : goal.returns
returns g c =
    let d = decimal c.args.number in
    let rest = (codes " href=\"#fn-" ++ ((d ++ 34 ∷ []) ++ codes " role=\"doc-noteref\"")) in
    put_as g.K.Sink c.args.out.now c.push_ascii.new.out c.args.page.now c.push_ascii.new.self ((codes " id=\"fnref-"
    ++ d) ++
    (34 ∷ rest)) (attributes_text (plain_attributes (Reference c.args.number))) (value_pieces (codes " id=\"fnref-") d
    rest)
    (put_as g.K.Sink c.args.out.now c.push_ascii.new.out c.args.page.now c.push_ascii.new.self ((codes " id=\"fnref-"
    ++ d) ++
    ((codes "\" href=\"#fn-" ++ d) ++ codes "\" role=\"doc-noteref\"")) ((codes " id=\"fnref-" ++ d) ++ (34 ∷ rest))
    (ap (λ
    (text : List ℕ). (codes " id=\"fnref-" ++ d) ++ text) (value_pieces (codes "\" href=\"#fn-") d (codes
    " role=\"doc-noteref\"")))
    (three_put g.K.Sink c.args.out.now c.push_numbered.new.out c.push_numbered-2.new.out c.push_ascii.new.out
    c.args.page.now c.push_numbered.new.page c.push_numbered-2.new.page c.push_ascii.new.self (codes " id=\"fnref-" ++
    d) (codes "\" href=\"#fn-" ++ d) (codes "\" role=\"doc-noteref\"") c.push_numbered.ensures
    c.push_numbered-2.ensures c.push_ascii.ensures))
