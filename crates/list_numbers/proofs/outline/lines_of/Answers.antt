use Rattle.std.proofs.Common.{◌≡◌, ◌<◌, ◌-◌, ◌∙◌, ◌++◌, ap, sym, subst, Some, None, take, drop, List, [], ℕ, ◌+◌}
use Rattle.std.proofs.Common.{length, slice_index_or, arith, length-take}
use Rattle.std.specs.Prelude.{slice_range, map}
use Rattle.std.proofs.lemmas.List.{take_at}
use Rattle.std.proofs.lemmas.Option.{slice_get-get_or, slice_get_within}
use Rattle.doc_model.specs.declared.item.Item.{Item}
use Rattle.doc_model.specs.declared.document.Document.{Document}
use Rattle.doc_model.specs.Paragraphs.{IsParagraphEnd}
use Rattle.doc_columns.specs.Attached.{attached_of}
use Rattle.doc_columns.proofs.Public.{start_at, column_long, begins_at_start}
use Rattle.list_numbers.specs.MarkValues.{no_values}
use Rattle.list_numbers.specs.Counters.{HaveCounted}
use Rattle.list_numbers.specs.Outline.{bare_units, outline_level, outline_line, units_line}
use Rattle.list_numbers.proofs.NumberedLemmas.{few_counted}
use Rattle.list_numbers.proofs.ParagraphLemmas.{text_left, end_there, bare_units_from, paragraph_from}
use Rattle.list_numbers.proofs.DocumentValueLemmas.{few_paragraphs_there}
use Rattle.list_numbers.proofs.OutlineLemmas.{Numbered, HasLines, no_lines, one_line}
use Rattle.list_numbers.proofs.outline.lines_of.Goals as goal

pub loop-i-init : goal.loop-i-init
loop-i-init c =
    let doc : Numbered = record {
      items = c.args.document.now.main;
      lists = c.args.lists.now;
      values = c.args.values.now;
      places = c.args.places.now;
    } in
    let counted : HaveCounted [] (length c.args.lists.now) c.in_ok-counts.counts.items =
    rw c.len.ensures at c.in_ok-counts.ensures in
    record {
      lines = rw c.new-text.ensures (no_lines doc c.in_ok-counts.counts.items counted);
      cursor = start_at c.attachments-attachments.result.now c.new-marks.result c.new-marks.ensures;
      ahead = begins_at_start c.new-marks.result c.new-marks.ensures;
    }

pub mark_of-end-requires-clause-long : goal.mark_of-end-requires-clause-long
mark_of-end-requires-clause-long c =
    column_long c.attachments-attachments.result.now c.document.inside.main attached_of c.len-len.result
    c.attachments-attachments.ensures c.len-len.ensures.len

pub mark_of-end-requires-clause-within : goal.mark_of-end-requires-clause-within
mark_of-end-requires-clause-within c =
    let main : length c.document.inside.main ≡ length c.args.document.now.main =
    ap (λ (d : Document). length d.main) c.document.view_is in
    let left : c.loop-i.at < length c.args.document.now.main =
    text_left c.args.document.now.main c.loop-i.at c.loop-i.i c.loop-i.invariant.lines.begins
    (subst (λ n. c.loop-i.i < n) c.requires.places c.loop-i-test.true) in
    omega (arith, left, main, c.len-len.ensures.len)

pub next_number-requires-clause-place : goal.next_number-requires-clause-place
next_number-requires-clause-place c =
    λ x e. c.requires.fit c.loop-i.i x (slice_get-get_or c.args.places.now c.loop-i.i None c.loop-i-test.true ∙ ap Some
    e)

pub next_number-requires-clause-few : goal.next_number-requires-clause-few
next_number-requires-clause-few c =
    let few = few_paragraphs_there c.args.document.now c.requires.sound in
    let same = c.requires.places in
    few_counted (take c.loop-i.i c.args.places.now) (length c.args.lists.now) c.deref_mut.result.now
    (rw c.deref_mut.ensures.value c.loop-i.invariant.lines.counted)
    (omega (arith, length-take c.loop-i.i c.args.places.now))

pub loop-i-preserved : goal.loop-i-preserved
loop-i-preserved c =
    let document = c.args.document.now in
    let places = c.args.places.now in
    let at = c.loop-i.at in
    let i = c.loop-i.i in
    let found = c.mark_of-end in
    let end = found.result.1 in
    let new = c.next_number.new.counts in
    let doc : Numbered = record {
      items = document.main;
      lists = c.args.lists.now;
      values = c.args.values.now;
      places = places;
    } in
    let is : c.document.inside.main ≡ document.main = ap (λ (d : Document). d.main) c.document.view_is in
    let left : at < length document.main =
    text_left document.main at i c.loop-i.invariant.lines.begins
    (subst (λ n. i < n) c.requires.places c.loop-i-test.true) in
    let ends : IsParagraphEnd document.main at (end - 1) =
    end_there document c.document.inside.main at end found.result.0 c.requires.sound is left
    (found.ensures.found c.document.inside.main c.attachments-attachments.ensures) in
    let next : end - 1 + 1 ≡ end = omega (arith, found.ensures.some) in
    let last : end - 1 < length document.main =
    slice_get_within document.main (end - 1) ends.ends.item ends.ends.here in
    let own = slice_index_or c.args.values.now i no_values in
    let number = c.in_ok-number.number in
    let shown : slice_range c.units-units.result.now at (end - 1) ≡ bare_units (paragraph_from document.main at (end -
    1)) = ap (λ (us : List ℕ). slice_range us at (end - 1))
    (c.units-units.ensures ∙ ap (λ (items : List Item). map (λ item. item.unit) items) is)
    ∙ sym (bare_units_from document.main at (end - 1) ends.after last) in
    let line : c.push_line.new.text ≡ c.loop-i.text ++ outline_line i (outline_level own.outline) number
    (paragraph_from document.main at (end - 1)) = c.in_ok-push_line.ensures
    ∙ ap (λ (us : List ℕ). c.loop-i.text ++ units_line i (outline_level own.outline) number us) shown in
    let old : HaveCounted (take i places) (length c.args.lists.now) c.deref_mut.result.now =
    rw c.deref_mut.ensures.value c.loop-i.invariant.lines.counted in
    let counted = c.next_number.ensures.counted (take i places) old in
    let whole : take c.loop-i.counts.len (new ++ drop (length new) c.loop-i.counts.items) ≡ new =
    take_at new (drop (length new) c.loop-i.counts.items) c.loop-i.counts.len (counted.size ∙ (sym old.size ∙
    c.deref_mut.ensures.len)) in
    let low : i < length c.args.values.now =
    subst (λ n. i < n) (c.requires.places ∙ sym c.requires.values) c.loop-i-test.true in
    record {
      lines =
          rw whole (subst (λ n. HasLines doc c.push_line.new.text new n (i + 1)) next
          (one_line doc c.loop-i.text c.push_line.new.text c.loop-i.counts.items new at (end - 1) i own
          (slice_index_or places i None) number c.loop-i.invariant.lines ends
          (slice_get-get_or c.args.values.now i no_values low) (slice_get-get_or places i None c.loop-i-test.true)
          c.loop-i-test.true counted (c.in_ok-number.ensures.number (take i places) old) line));
      cursor = found.ensures.cursor;
      ahead = found.ensures.ahead;
    }
