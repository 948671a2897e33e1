-- The paragraphs of the row, one by one.
use Rattle.std.proofs.Common.{◌≡◌, ◌∙◌, ◌-◌, Bool, true, false, Some, refl, sym, ap, arith}
use Rattle.std.specs.Prelude.{slice_index, slice_get}
use Rattle.std.proofs.lemmas.Option.{slice_get-get_or}
use Rattle.doc_columns.specs.Walks.{items_in}
use Rattle.doc_columns.proofs.Public.{items_long}
use Rattle.doc_view.specs.Layout.{ends_head, row_goes_on}
use Rattle.doc_view.specs.Seen.{standing_of}
use Rattle.doc_view.proofs.Public.{next_left, none_left}
use Rattle.doc_places.specs.Grid.{is_head_row}
use Rattle.doc_html.specs.Writes.{paragraphs_left}
use Rattle.doc_html.proofs.HeadLemmas.{head_ends, head_on}
use Rattle.doc_html.proofs.heads.is_head_row.Goals as goal

pub loop-at-init : goal.loop-at-init
loop-at-init c = record {
  within = c.requires.within;
  marks = c.requires.marks;
  ahead = c.requires.ahead;
  same = λ formats manner. refl;
}

pub returns-then-not-keeps_row : goal.returns-then-not-keeps_row
returns-then-not-keeps_row c = λ formats manner.
    let parts = c.args.parts.now in
    let found = c.paragraph_end-end.ensures in
    let end = c.paragraph_end-end.result in
    let last = c.seek-last.result.now in
    let some = found.some in
    let inside = found.within in
    let unit = slice_index parts.units.now (end - 1) in
    let unit_is : slice_get parts.units.now (end - 1) ≡ Some unit =
    slice_get-get_or parts.units.now (end - 1) 0 (omega (arith, some, inside)) in
    let left =
    next_left formats manner parts c.requires.parts c.loop-at.at end unit last some inside found.inside found.ends
    unit_is c.seek-last.ensures.value in
    c.ends_head.ensures ∙ ap ends_head c.of-standing.ensures
    ∙ sym (ap is_head_row left ∙ head_ends (standing_of unit last.mark) (paragraphs_left formats manner (items_in
    parts) end)
    (ap row_goes_on (sym c.of-standing.ensures) ∙ sym c.keeps_row.ensures ∙ c.if-not-keeps_row.true))
    ∙ c.loop-at.invariant.same formats manner

pub loop-at-preserved : goal.loop-at-preserved
loop-at-preserved c =
    let parts = c.args.parts.now in
    let found = c.paragraph_end-end.ensures in
    let end = c.paragraph_end-end.result in
    let last = c.seek-last.result.now in
    let behind = c.seek-last.ensures.ahead in
    let some = found.some in
    let inside = found.within in
    let unit = slice_index parts.units.now (end - 1) in
    let unit_is : slice_get parts.units.now (end - 1) ≡ Some unit =
    slice_get-get_or parts.units.now (end - 1) 0 (omega (arith, some, inside)) in
    record {
      within = inside;
      marks = c.seek-last.ensures.at;
      ahead = omega (arith, behind);
      same = λ formats manner.
          let left =
          next_left formats manner parts c.requires.parts c.loop-at.at end unit last some inside found.inside found.ends
          unit_is c.seek-last.ensures.value in
          sym (ap is_head_row left ∙ head_on (standing_of unit last.mark) (paragraphs_left formats manner (items_in
          parts) end)
          (ap row_goes_on (sym c.of-standing.ensures) ∙ sym c.keeps_row.ensures ∙ c.if-not-keeps_row.false))
          ∙ c.loop-at.invariant.same formats manner;
    }

pub returns : goal.returns
returns c = λ formats manner.
    let parts = c.args.parts.now in
    let done = c.loop-at-test.false in
    let none =
    none_left formats manner (items_in parts) c.loop-at.at (omega (arith, items_long parts c.requires.parts, done)) in
    sym (ap is_head_row none) ∙ c.loop-at.invariant.same formats manner
