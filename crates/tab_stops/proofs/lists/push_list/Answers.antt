use Rattle.std.proofs.Common.{refl, inr, sym}
use Rattle.std.proofs.lemmas.Option.{none-some}
use Rattle.tab_stops.specs.Lists.{AreListStops}
use Rattle.tab_stops.proofs.ListLemmas.{pushes_none}
use Rattle.tab_stops.proofs.lists.push_list.Goals as goal

pub returns-in-Some : goal.returns-in-Some
returns-in-Some c =
    pushes_none (AreListStops c.args.list.now c.args.from) c.args.places.now.items
    (inr ((λ accepted. none-some _ (sym (c.in-Some.ensures.accepted.1 accepted))), refl))
