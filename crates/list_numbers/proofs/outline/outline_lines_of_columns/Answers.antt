use Rattle.std.proofs.Common.{◌≡◌, subst}
use Rattle.doc_model.specs.declared.document.Document.{Document}
use Rattle.list_numbers.specs.Places.{paragraphs}
use Rattle.list_numbers.specs.Numbers.{AreFit, numbers_of}
use Rattle.list_numbers.specs.Outline.{outline_of}
use Rattle.list_numbers.proofs.FitLemmas.{places_fit}
use Rattle.list_numbers.proofs.outline.outline_lines_of_columns.Goals as goal

pub lines_of-requires-clause-fit : goal.lines_of-requires-clause-fit
lines_of-requires-clause-fit c =
    let fit : AreFit c.in_ok-lists.lists.lists c.deref-3.result.now = rw (
      c.deref-3.ensures.value,
      c.in_ok-places.ensures,
    ) (places_fit c.in_ok-lists.lists.lists c.in_ok-lists.lists.uses.items c.deref.result.now) in
    fit

pub returns : goal.returns
returns c = record {
  values = c.in_ok-values.values.items;
  are = c.in_ok-values.ensures;
  lines =
      let values = c.in_ok-values.values.items in
      let lines = rw (
        c.deref-2.ensures.value,
        c.deref-3.ensures.value,
        c.in_ok-places.ensures,
        c.deref.ensures.value,
        c.in_ok-lists.ensures.lists,
        c.in_ok-lists.ensures.uses,
      ) at c.in_ok-text.ensures in
      subst (λ (d : Document). c.in_ok-text.text ≡ outline_of (paragraphs c.args.document.now.main) values
      (numbers_of d values)) c.document.view_is lines;
}
