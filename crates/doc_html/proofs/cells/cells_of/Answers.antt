-- The paragraphs of the text, one by one.
use Rattle.std.proofs.Common.{◌≡◌, ◌∙◌, ◌≤◌, ◌+◌, ◌-◌, ◌++◌, ◌&&◌, not, Some, List, sym, ap, arith, append-nil, length}
use Rattle.std.specs.Prelude.{◌==◌, slice_index, slice_get}
use Rattle.std.proofs.lemmas.Option.{slice_get-get_or}
use Rattle.doc_model.specs.Settings.{is_inside}
use Rattle.doc_model.specs.Stretches.{stretches}
use Rattle.doc_columns.specs.Walks.{items_in}
use Rattle.doc_columns.proofs.Public.{items_long, start_at, begins_at_start}
use Rattle.cell_spans.specs.declared.tables.Tables.{Tables}
use Rattle.cell_spans.specs.Tables.{behind_outside, no_tables}
use Rattle.nested_tables.specs.declared.depths.Depth.{Depth}
use Rattle.nested_tables.specs.Tables.{tables_of}
use Rattle.doc_view.specs.Seen.{standing_of}
use Rattle.doc_view.specs.declared.standing.Standing.{Standing}
use Rattle.doc_view.proofs.Public.{paragraph_begins}
use Rattle.doc_places.specs.Cells.{definition_in, depth_by, depths_from, tables_by, tables_from}
use Rattle.doc_places.specs.Places.{has_label, is_mark_alone, lead}
use Rattle.doc_places.proofs.Public.{lead_more, lead_none}
use Rattle.doc_html.proofs.CellLemmas.{depths_end, depths_on, tables_end, tables_on}
use Rattle.doc_html.proofs.cells.cells_of.Goals as goal

pub loop-place-init : goal.loop-place-init
loop-place-init c =
    let parts = c.args.parts.now in
    let is_mark = is_mark_alone c.args.bookmarks.now c.args.values.now in
    record {
      within = omega arith;
      marks = start_at parts.attachments.now c.new-marks.result c.new-marks.ensures;
      ahead = begins_at_start c.new-marks.result c.new-marks.ensures;
      number = omega arith;
      next = sym (lead_none c.args.bookmarks.now);
      tables =
          ap (λ (tables : Tables). tables_from is_mark 0 0 tables (stretches is_inside (items_in parts)))
          c.new-tables.ensures;
      depths =
          ap (λ (depths : List Depth). depths ++ depths_from is_mark 0 0 (stretches is_inside (items_in parts)))
          c.new-depths.ensures;
    }

pub next_anchor-behind-requires : goal.next_anchor-behind-requires
next_anchor-behind-requires c =
    let some = c.paragraph_end-end.ensures.some in
    let next = c.loop-place.invariant.next in
    let more = lead_more c.args.bookmarks.now c.loop-place.place c.paragraph_end-end.result (omega (arith, some)) in
    omega (arith, next, more)

pub loop-place-preserved : goal.loop-place-preserved
loop-place-preserved c =
    let parts = c.args.parts.now in
    let old = c.loop-place in
    let bookmarks = c.args.bookmarks.now in
    let values = c.args.values.now in
    let is_mark = is_mark_alone bookmarks values in
    let found = c.paragraph_end-end.ensures in
    let end = c.paragraph_end-end.result in
    let last = c.seek-last.result.now in
    let ahead = c.seek-last.ensures.ahead in
    let some = found.some in
    let inside = found.within in
    let number = old.invariant.number in
    let unit = slice_index parts.units.now (end - 1) in
    let unit_is : slice_get parts.units.now (end - 1) ≡ Some unit =
    slice_get-get_or parts.units.now (end - 1) 0 (omega (arith, some, inside)) in
    let behind : c.next_anchor-behind.result ≡ lead bookmarks end = c.next_anchor-behind.ensures in
    let back : end ≡ old.place + (end - old.place) = omega (arith, some) in
    let here : c.is_mark_alone-is_mark.result ≡ is_mark old.number old.place (end - old.place) =
    c.is_mark_alone-is_mark.ensures
    ∙ (λ i. end - old.place == 1 && (not (has_label (c.get.ensures i)) && old.invariant.next i == (behind ∙ ap (lead
    bookmarks) back) i)) in
    let deep : c.depth_by.result ≡ depth_by (standing_of unit last.mark) last.mark c.is_mark_alone-is_mark.result =
    c.depth_by.ensures ∙ ap (λ (s : Standing). depth_by s last.mark c.is_mark_alone-is_mark.result)
    c.of-standing.ensures in
    let passed =
    c.in_ok-pass.ensures
    ∙ ap (λ (s : Standing). tables_by old.tables s c.is_mark_alone-is_mark.result (definition_in last.mark))
    c.of-standing.ensures in
    record {
      within = inside;
      marks = c.seek-last.ensures.at;
      ahead = omega (arith, ahead);
      number = omega (arith, number, some);
      next = behind;
      tables =
          tables_on is_mark old.number parts c.requires old.place end unit last some inside (paragraph_begins parts
          c.requires old.place end some inside found.inside found.ends) unit_is c.seek-last.ensures.value old.tables
          c.pass.new.tables c.is_mark_alone-is_mark.result here passed
          ∙ old.invariant.tables;
      depths =
          depths_on is_mark old.number parts c.requires old.place end unit last some inside (paragraph_begins parts
          c.requires old.place end some inside found.inside found.ends) unit_is c.seek-last.ensures.value old.depths
          c.push.new.self c.depth_by.result c.is_mark_alone-is_mark.result here deep c.in_ok-push.ensures
          ∙ old.invariant.depths;
    }

pub returns : goal.returns
returns c =
    let parts = c.args.parts.now in
    let last = c.loop-place in
    let done = c.loop-place-test.false in
    let is_mark = is_mark_alone c.args.bookmarks.now c.args.values.now in
    let past : length (items_in parts) ≤ last.place = omega (arith, items_long parts c.requires, done) in
    let tables : last.tables ≡ tables_from is_mark 0 0 no_tables (stretches is_inside (items_in parts)) =
    sym (tables_end is_mark last.number last.place last.tables (items_in parts) past) ∙ last.invariant.tables in
    let depths : last.depths ≡ depths_from is_mark 0 0 (stretches is_inside (items_in parts)) =
    sym (append-nil last.depths)
    ∙ ap (λ (more : List Depth). last.depths ++ more) (sym (depths_end is_mark last.number last.place (items_in parts)
    past))
    ∙ last.invariant.depths in
    let spans =
    c.in_ok-spans.ensures ∙ ap (λ (t : Tables). (behind_outside t).spans) tables in
    let nested =
    c.in_ok-nested.ensures ∙ ap tables_of depths in
    λ i. record { spans = spans i; nested = nested i }
