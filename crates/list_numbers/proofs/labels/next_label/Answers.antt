use Rattle.std.proofs.Common.{◌∙◌, ap, refl, Some, ◌++◌, ◌∷◌, [], length, take}
use Rattle.std.specs.Prelude.{slice_get}
use Rattle.list_numbers.specs.Counters.{counter}
use Rattle.list_numbers.proofs.AlikeLemmas.{number_by_counts}
use Rattle.list_numbers.specs.Numbers.{units_in}
use Rattle.list_numbers.specs.ParagraphValues.{is_bullet_level, label_with, list_level, shown_units}
use Rattle.list_numbers.proofs.CounterLemmas.{other_counted, paragraph_counted}
use Rattle.list_numbers.proofs.labels.next_label.Goals as goal

pub returns-in_default-clause-counted : goal.returns-in_default-clause-counted
returns-in_default-clause-counted c =
    λ places h. rw c.in_default.is (other_counted places (length c.args.lists.now) c.args.counts.now h)

pub returns-in_err-label-clause-counted : goal.returns-in_err-label-clause-counted
returns-in_err-label-clause-counted c =
    λ places h. rw c.in-Some.is (paragraph_counted places c.in-Some.place (length c.args.lists.now) c.args.counts.now
    c.count_place.new.counts h c.count_place.ensures)

pub returns-clause-counted : goal.returns-clause-counted
returns-clause-counted c =
    λ places h. rw c.in-Some.is (paragraph_counted places c.in-Some.place (length c.args.lists.now) c.args.counts.now
    c.count_place.new.counts h c.count_place.ensures)

pub returns-clause-label : goal.returns-clause-label
returns-clause-label c =
    λ places h.
    let lists = c.args.lists.now in
    let place = c.in-Some.place in
    let counts = c.count_place.new.counts in
    let units = units_in (slice_get lists place.list) place.level (counter counts place.list) in
    let level = list_level (slice_get lists place.list) place.level in
    let bullet = is_bullet_level level in
    rw c.in-Some.is (c.in_ok-label.ensures
    ∙ ap (λ us. label_with place.level bullet (shown_units c.args.fonts level (take 64 us))) (number_by_counts lists place (places ++ Some place ∷ []) counts units
    (paragraph_counted places place (length lists) c.args.counts.now counts h c.count_place.ensures)
    (c.requires.place place c.in-Some.is).0 refl))
