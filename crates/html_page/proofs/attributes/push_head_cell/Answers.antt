use Rattle.std.proofs.Common.{◌++◌, ◌∷◌, [], List, ℕ}
use Rattle.std.specs.Prelude.{codes}
use Rattle.page_out.proofs.Public.{put_then}
use Rattle.html_page.specs.Tags.{attribute, attributes_text, span_attributes}
use Rattle.html_page.proofs.attributes.push_head_cell.Goals as goal

pub returns : goal.returns
returns g c =
    put_then g.K.Sink c.args.out.now c.push_ascii.new.out c.push_span.new.out c.args.page.now c.push_ascii.new.self
    c.push_span.new.page (32 ∷ attribute (codes "scope") (codes "col")) (attributes_text (span_attributes c.args.span))
    c.push_ascii.ensures c.push_span.ensures
