use Rattle.std.proofs.Common.{◌++◌, ◌∷◌, [], List, ℕ}
use Rattle.std.specs.Prelude.{codes, nat_le, if◌then◌else◌}
use Rattle.std.specs.Fmt.{decimal}
use Rattle.page_out.proofs.Public.{put_then}
use Rattle.html_page.proofs.PutLemmas.{put_as, reach_pieces}
use Rattle.html_page.specs.Tags.{attribute, attributes_text, reach_attributes}
use Rattle.html_page.proofs.attributes.push_reach.Goals as goal

pub returns : goal.returns
returns g c =
    let span = c.args.span in
    let columns : List ℕ = if nat_le 2 span.columns then 32 ∷ attribute (codes "colspan") (decimal span.columns) else []
    in
    let rows : List ℕ = if nat_le 2 span.rows then 32 ∷ attribute (codes "rowspan") (decimal span.rows) else [] in
    put_as g.K.Sink c.args.out.now c.push_rows.new.out c.args.page.now c.push_rows.new.page (columns ++ rows)
    (attributes_text (reach_attributes span)) (reach_pieces span)
    (put_then g.K.Sink c.args.out.now c.push_columns.new.out c.push_rows.new.out c.args.page.now
    c.push_columns.new.page c.push_rows.new.page columns rows c.push_columns.ensures c.push_rows.ensures)
