use Rattle.page_out.proofs.Public.{put_then}
use Rattle.doc_view.specs.Labels.{break_text, label_text}
use Rattle.doc_view.proofs.paragraph.push_values.Goals as goal

pub returns : goal.returns
returns g c =
    let values = c.args.values.now in
    let breaks = c.push_page_break in
    let label = c.push_label in
    put_then g.K.Sink c.args.out.now breaks.new.out label.new.out c.args.page.now breaks.new.page label.new.page
    (break_text c.args.in_table values.breaks_page) (label_text c.args.in_table values.label) breaks.ensures
    label.ensures
