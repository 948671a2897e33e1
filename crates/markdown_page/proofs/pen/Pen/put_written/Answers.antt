use Rattle.std.proofs.Common.{◌≡◌, ℕ, Bool, [], ◌∷◌, List, subst}
use Rattle.std.specs.Prelude.{if◌then◌else◌}
use Rattle.page_out.specs.Printed.{Prints}
use Rattle.page_out.proofs.Public.{put_then}
use Rattle.markdown_text.specs.Lines.{is_special}
use Rattle.markdown_page.proofs.TokenLemmas.{written_put}
use Rattle.markdown_page.proofs.pen.Pen.put_written.Goals as goal

pub returns-clause-prints : goal.returns-clause-prints
returns-clause-prints g c =
    let old = c.args.self.now in
    written_put g.K.Sink c.args.out.now c.put_solidus.new.out c.push_char.new.out old.page c.put_solidus.new.self.page
    c.push_char.new.self (is_special old.line c.args.code) c.args.code
    (subst (λ (there : Bool). Prints g.K.Sink c.args.out.now old.page c.put_solidus.new.out c.put_solidus.new.self.page
    (if there then 92 ∷ [] else [])) c.is_special.ensures c.put_solidus.ensures.prints) c.push_char.ensures
