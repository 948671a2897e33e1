use Rattle.std.proofs.Common.{subst}
use Rattle.doc_view.specs.declared.paragraph.Saying.{Saying}
use Rattle.doc_view.specs.Lines.{glyph_said}
use Rattle.page_out.specs.Printed.{Prints}
use Rattle.doc_view.proofs.PrintLemmas.{shown_put}
use Rattle.doc_view.proofs.paragraph.Saying.show.Goals as goal

pub returns-in-Some-clause-said : goal.returns-in-Some-clause-said
returns-in-Some-clause-said g c =
    let front = c.begin in
    let said = c.push_glyph in
    shown_put g.K.Sink c.args.out.now front.new.out said.new.out c.args.page.now front.new.page said.new.page
    c.args.self.now c.args.glyph c.in-Some.glyph c.in-Some.is front.ensures.said
    (subst (λ (s : Saying). Prints g.K.Sink front.new.out front.new.page said.new.out said.new.page
    (glyph_said s.in_table s.half c.in-Some.glyph)) front.ensures.after said.ensures.said)
