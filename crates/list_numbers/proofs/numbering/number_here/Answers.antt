use Rattle.list_numbers.proofs.AlikeLemmas.{number_by_counters}
use Rattle.list_numbers.proofs.numbering.number_here.Goals as goal

pub returns : goal.returns
returns c =
    number_by_counters c.args.lists.now c.get-list.result.now c.args.place.list c.args.place.level c.args.counts.now
    c.in_ok-units.units c.get-list.ensures c.in_ok-units.ensures
