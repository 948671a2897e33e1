use Rattle.list_numbers.specs.Places.{list_place}
use Rattle.list_numbers.specs.Numbers.{AreFit}
use Rattle.list_numbers.proofs.DocumentValueLemmas.{few_values}
use Rattle.list_numbers.proofs.FitLemmas.{places_fit}
use Rattle.list_numbers.proofs.paragraph_values.paragraph_values_of_columns.Goals as goal

pub values_at-requires-clause-few : goal.values_at-requires-clause-few
values_at-requires-clause-few c =
    rw (c.deref-2.ensures.value, c.in_ok-places.ensures, c.deref.ensures.value) (few_values c.args.document.now
    c.in_ok-values.values.items (list_place c.in_ok-lists.lists.lists c.in_ok-lists.lists.uses.items) c.requires
    c.in_ok-values.ensures)

pub values_at-requires-clause-fit : goal.values_at-requires-clause-fit
values_at-requires-clause-fit c =
    let fit : AreFit c.in_ok-lists.lists.lists c.deref-2.result.now = rw (
      c.deref-2.ensures.value,
      c.in_ok-places.ensures,
    ) (places_fit c.in_ok-lists.lists.lists c.in_ok-lists.lists.uses.items c.deref.result.now) in
    fit
