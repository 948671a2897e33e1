use Rattle.std.proofs.Common.{◌≡◌, ◌+◌, ◌<◌, ◌-◌, length, ap, subst, refl, arith}
use Rattle.doc_model.specs.declared.document.Document.{Document}
use Rattle.plain_doc.proofs.Public.{sound_is_valid, sound_seen}
use Rattle.doc_columns.specs.Attached.{attached_of}
use Rattle.doc_columns.proofs.Public.{start_at, column_long, begins_at_start}
use Rattle.list_numbers.specs.MarkValues.{AreKnownValues, AreMarkValues}
use Rattle.list_numbers.specs.Places.{ParagraphEndsBefore}
use Rattle.list_numbers.proofs.DocumentValueLemmas.{HaveValues, none_known, style_of_mark, no_values}
use Rattle.list_numbers.proofs.DocumentValueLemmas.{more_values, all_values}
use Rattle.list_numbers.proofs.ParagraphLemmas.{mark_there, mark_taken}
use Rattle.list_numbers.proofs.paragraphs.document_values.Goals as goal

pub loop-at-init : goal.loop-at-init
loop-at-init c =
    let none : AreKnownValues c.document.inside.sheet c.in_ok-known.known.items =
    rw c.in_ok-known.ensures (none_known c.document.inside.sheet c.slots.result) in
    record {
      values = rw c.new-values.ensures.items (no_values c.args.document.now);
      known = none;
      cursor = start_at c.attachments-attachments.result.now c.new-marks.result c.new-marks.ensures;
      ahead = begins_at_start c.new-marks.result c.new-marks.ensures;
    }

pub mark_of-end-requires-clause-long : goal.mark_of-end-requires-clause-long
mark_of-end-requires-clause-long c =
    column_long c.attachments-attachments.result.now c.document.inside.main attached_of c.len-len.result
    c.attachments-attachments.ensures c.len-len.ensures.len

pub mark_of-end-requires-clause-cursor : goal.mark_of-end-requires-clause-cursor
mark_of-end-requires-clause-cursor c = c.loop-at.invariant.cursor

pub mark_of-end-requires-clause-ahead : goal.mark_of-end-requires-clause-ahead
mark_of-end-requires-clause-ahead c = c.loop-at.invariant.ahead

pub unwrap-requires : goal.unwrap-requires
unwrap-requires c =
    let main = c.document.inside.main in
    let low : c.loop-at.at < length main = omega (arith, c.loop-at-test.true, c.len-len.ensures.len) in
    mark_there _ c.document.inside.main c.loop-at.at c.mark_of-end.result.1 c.mark_of-end.result.0
    (sound_seen _ _ c.document.view_is c.requires) refl low
    (c.mark_of-end.ensures.found c.document.inside.main c.attachments-attachments.ensures)

pub values_of_mark-requires-clause-bases : goal.values_of_mark-requires-clause-bases
values_of_mark-requires-clause-bases c = (sound_is_valid _ (sound_seen _ _ c.document.view_is c.requires)).bases

pub values_of_mark-requires-clause-style : goal.values_of_mark-requires-clause-style
values_of_mark-requires-clause-style c =
    let end = c.mark_of-end.result.1 in
    let ended =
    mark_taken c.document.inside.main c.loop-at.at end c.mark_of-end.result.0 c.unwrap.result c.unwrap.ensures
    (c.mark_of-end.ensures.found c.document.inside.main c.attachments-attachments.ensures) in
    style_of_mark _ (end - 1) c.unwrap.result.now (sound_seen _ _ c.document.view_is c.requires) ended.marked

pub values_of_mark-requires-clause-known : goal.values_of_mark-requires-clause-known
values_of_mark-requires-clause-known c = c.loop-at.invariant.known

pub loop-at-preserved : goal.loop-at-preserved
loop-at-preserved c =
    let document = c.args.document.now in
    let at = c.loop-at.at in
    let found = c.mark_of-end in
    let end = found.result.1 in
    let mark = c.unwrap.result.now in
    let seen =
    mark_taken c.document.inside.main at end found.result.0 c.unwrap.result c.unwrap.ensures
    (found.ensures.found c.document.inside.main c.attachments-attachments.ensures) in
    let ended : ParagraphEndsBefore document.main at end mark =
    subst (λ (d : Document). ParagraphEndsBefore d.main at end mark) c.document.view_is seen in
    let own = c.in_ok-own.own in
    let are : AreMarkValues document.sheet mark own =
    subst (λ (d : Document). AreMarkValues d.sheet mark own) c.document.view_is c.in_ok-own.ensures.values in
    let next : end - 1 + 1 ≡ end = omega (arith, found.ensures.some) in
    record {
      values =
          rw c.in_ok-push.ensures.items (subst (HaveValues document _) next
          (more_values document c.loop-at.values.items at (end - 1) mark own c.loop-at.invariant.values
          ended.is_end ended.marked are));
      known = c.in_ok-own.ensures.known;
      cursor = found.ensures.cursor;
      ahead = found.ensures.ahead;
    }

pub returns : goal.returns
returns c =
    let main : length c.document.inside.main ≡ length c.args.document.now.main =
    ap (λ (d : Document). length d.main) c.document.view_is in
    all_values c.args.document.now c.loop-at.values.items c.loop-at.at c.loop-at.invariant.values
    (omega (arith, c.loop-at-test.false, c.len-len.ensures.len, main))
