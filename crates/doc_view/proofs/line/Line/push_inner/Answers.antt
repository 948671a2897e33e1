use Rattle.std.proofs.Common.{Bool, [], ◌∷◌, ◌++◌, sym, subst}
use Rattle.std.specs.Prelude.{if◌then◌else◌}
use Rattle.doc_view.specs.Layout.{line_front, tab_front}
use Rattle.doc_view.specs.Lines.{lead_text}
use Rattle.page_out.specs.Printed.{Prints}
use Rattle.page_out.proofs.Public.{put_then}
use Rattle.doc_view.proofs.line.Line.push_inner.Goals as goal

pub returns : goal.returns
returns g c =
    let line = c.args.self in
    let row = if line.in_row then [] else line_front (lead_text c.args.lead) line.some in
    let tab = tab_front line.later in
    subst (λ (b : Bool). Prints g.K.Sink c.args.out.now c.args.page.now c.push_tab.new.out c.push_tab.new.page
    (if b then 32 ∷ [] else row ++ tab)) (sym c.if-self.false)
    (put_then g.K.Sink c.args.out.now c.push_row.new.out c.push_tab.new.out c.args.page.now c.push_row.new.page
    c.push_tab.new.page row tab c.push_row.ensures c.push_tab.ensures)
