use Rattle.std.proofs.Common.{List, ℕ, subst}
use Rattle.page_out.specs.Printed.{Prints}
use Rattle.markdown_page.specs.Marks.{tag_text}
use Rattle.markdown_page.proofs.TokenLemmas.{tag_put}
use Rattle.markdown_page.proofs.pen.Pen.put_tag.Goals as goal

pub returns : goal.returns
returns g c =
    tag_put g.K.Sink c.args.out.now c.push_ascii.new.out c.push_ascii-2.new.out c.push_ascii-3.new.out c.args.self.now
    c.push_ascii.new.self c.push_ascii-2.new.self c.push_ascii-3.new.self c.after_tag-self.result (tag_text c.args.tag)
    c.push_ascii.ensures
    (subst (λ (text : List ℕ). Prints g.K.Sink c.push_ascii.new.out c.push_ascii.new.self c.push_ascii-2.new.out
    c.push_ascii-2.new.self text) c.tag_text.ensures.is c.push_ascii-2.ensures)
    c.push_ascii-3.ensures c.after_tag-self.ensures
