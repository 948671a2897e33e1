use Rattle.std.proofs.Common.{◌≡◌, List, sym, subst}
use Rattle.view_paths.specs.Turns.{IsFront}
use Rattle.view_places.specs.declared.element.Element.{Element}
use Rattle.markdown_page.proofs.PutLemmas.{way_put}
use Rattle.markdown_page.proofs.printer.MarkdownPage.go.Goals as goal
use Rattle.view_places.proofs.Public.{shared_is_front}

pub open_to-requires : goal.open_to-requires
open_to-requires g c =
    let from = c.args.self.now.path in
    let to = c.args.to.now in
    subst (λ (path : List Element). IsFront path to) (sym c.close_to.ensures.path) (shared_is_front from to
    c.shared-shared.result c.shared-shared.ensures)

pub returns : goal.returns
returns g c =
    way_put g.K.Sink c.args.out.now c.close_to.new.out c.open_to.new.out c.args.self.now c.close_to.new.self
    c.open_to.new.self c.args.to.now c.shared-shared.result c.shared-shared.ensures c.close_to.ensures c.open_to.ensures
