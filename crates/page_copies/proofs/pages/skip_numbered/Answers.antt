use Rattle.page_copies.proofs.PageLemmas.{page_put}
use Rattle.page_copies.proofs.pages.skip_numbered.Goals as goal

pub returns-in-Some : goal.returns-in-Some
returns-in-Some c =
    rw c.in-Some.is (page_put c.in-Some.kind c.args.number c.args.wd.now c.skip_apart.new.page c.requires
    c.skip_apart.ensures c.skip_apart.auto.page)
