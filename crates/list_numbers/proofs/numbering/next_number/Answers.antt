use Rattle.std.proofs.Common.{ap, Some, ◌++◌, ◌∷◌, [], length}
use Rattle.list_numbers.proofs.AlikeLemmas.{number_by_counts}
use Rattle.list_numbers.proofs.CounterLemmas.{other_counted, paragraph_counted}
use Rattle.list_numbers.proofs.numbering.next_number.Goals as goal

pub returns-in_default-clause-counted : goal.returns-in_default-clause-counted
returns-in_default-clause-counted c =
    λ places h. rw c.in_default.is (other_counted places (length c.args.lists.now) c.args.counts.now h)

pub returns-in_err-units-clause-counted : goal.returns-in_err-units-clause-counted
returns-in_err-units-clause-counted c =
    λ places h. rw c.in-Some.is (paragraph_counted places c.in-Some.place (length c.args.lists.now) c.args.counts.now
    c.count_place.new.counts h c.count_place.ensures)

pub returns-clause-counted : goal.returns-clause-counted
returns-clause-counted c =
    λ places h. rw c.in-Some.is (paragraph_counted places c.in-Some.place (length c.args.lists.now) c.args.counts.now
    c.count_place.new.counts h c.count_place.ensures)

pub returns-clause-number : goal.returns-clause-number
returns-clause-number c =
    λ places h. rw c.in-Some.is (ap Some (number_by_counts c.args.lists.now c.in-Some.place (places ++ Some
    c.in-Some.place ∷ []) c.count_place.new.counts c.in_ok-units.units (paragraph_counted places c.in-Some.place
    (length c.args.lists.now) c.args.counts.now c.count_place.new.counts h c.count_place.ensures)
    (c.requires.place c.in-Some.place c.in-Some.is).0 c.in_ok-units.ensures))
