use Rattle.std.specs.Prelude.{option_map}
use Rattle.page_out.proofs.Public.{put_then}
use Rattle.doc_view.specs.Labels.{opening_text}
use Rattle.doc_view.specs.Layout.{front_at}
use Rattle.doc_view.specs.Lines.{lead_text}
use Rattle.doc_view.proofs.paragraph.Saying.push_front.Goals as goal

pub returns : goal.returns
returns g c =
    let saying = c.args.self in
    let front = c.push_front in
    let opening = c.push_opening in
    put_then g.K.Sink c.args.out.now front.new.out opening.new.out c.args.page.now front.new.page opening.new.page
    (front_at (lead_text saying.lead) saying.line saying.in_table)
    (opening_text saying.in_table (option_map (λ values. values.now) saying.values)) front.ensures opening.ensures
