use Rattle.std.proofs.Common.{◌∷◌, []}
use Rattle.std.specs.Prelude.{if◌then◌else◌}
use Rattle.doc_view.specs.Lines.{title_text}
use Rattle.page_out.proofs.Public.{put_then}
use Rattle.doc_view.proofs.line.Lead.push.Goals as goal

pub returns : goal.returns
returns g c =
    put_then g.K.Sink c.args.out.now c.push_apart.new.out c.push_title.new.out c.args.page.now c.push_apart.new.page
    c.push_title.new.page (if c.args.self.is_apart then 10 ∷ [] else []) (title_text c.args.self.title)
    c.push_apart.ensures c.push_title.ensures
