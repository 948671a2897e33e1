use Rattle.page_copies.proofs.CopyLemmas.{list_put}
use Rattle.page_copies.proofs.skips.skip_run.Goals as goal

pub returns-in-Some : goal.returns-in-Some
returns-in-Some c =
    list_put c.args.kind c.args.run c.args.page.now c.skip_list.new.list c.in-Some.place c.least_list.result
    c.requires.page c.in-Some.ensures c.least_list.ensures c.skip_list.ensures c.skip_list.auto.list
