use Rattle.std.proofs.Common.{◌≡◌, subst}
use Rattle.doc_model.specs.declared.document.Document.{Document}
use Rattle.list_numbers.specs.Places.{list_place}
use Rattle.list_numbers.specs.Numbers.{AreFit, numbers_of}
use Rattle.list_numbers.proofs.DocumentValueLemmas.{few_values}
use Rattle.list_numbers.proofs.FitLemmas.{places_fit}
use Rattle.list_numbers.proofs.document_numbers.numbers_of_columns.Goals as goal

pub numbers_at-requires-clause-few : goal.numbers_at-requires-clause-few
numbers_at-requires-clause-few c =
    rw (c.deref-2.ensures.value, c.in_ok-places.ensures, c.deref.ensures.value) (few_values c.args.document.now
    c.in_ok-values.values.items (list_place c.in_ok-lists.lists.lists c.in_ok-lists.lists.uses.items) c.requires
    c.in_ok-values.ensures)

pub numbers_at-requires-clause-fit : goal.numbers_at-requires-clause-fit
numbers_at-requires-clause-fit c =
    let fit : AreFit c.in_ok-lists.lists.lists c.deref-2.result.now = rw (
      c.deref-2.ensures.value,
      c.in_ok-places.ensures,
    ) (places_fit c.in_ok-lists.lists.lists c.in_ok-lists.lists.uses.items c.deref.result.now) in
    fit

pub returns : goal.returns
returns c = record {
  values = c.in_ok-values.values.items;
  are = c.in_ok-values.ensures;
  made =
      let values = c.in_ok-values.values.items in
      let made = rw (
        c.deref-2.ensures.value,
        c.in_ok-places.ensures,
        c.deref.ensures.value,
        c.in_ok-lists.ensures.lists,
        c.in_ok-lists.ensures.uses,
      ) at c.in_ok-numbers.ensures in
      subst (λ (d : Document). c.in_ok-numbers.numbers ≡ numbers_of d values) c.document.view_is made;
}
