use Rattle.std.proofs.Common.{◌≡◌, ◌∙◌, ◌≤◌, ap, sym, subst, arith, length, map, take, ℕ, List, [], ◌∷◌, ◌++◌, Option, Some}
use Rattle.std.specs.Prelude.{slice_get}
use Rattle.std.proofs.lemmas.List.{length-map, take_all}
use Rattle.doc_bits.proofs.Public.{take_step}
use Rattle.run_lists.specs.Spread.{total_len}
use Rattle.run_lists.specs.Places.{IsAtRunBegin}
use Rattle.run_lists.specs.declared.cursor.Cursor.{Cursor}
use Rattle.run_lists.proofs.Public.{extent-nil, length-spread}
use Rattle.doc_model.specs.declared.item.Item.{Item}
use Rattle.doc_model.specs.declared.item.NoteKind.{NoteKind}
use Rattle.doc_columns.specs.declared.attached.Attached.{Attached}
use Rattle.doc_columns.specs.Attached.{attached_of}
use Rattle.further_notes.specs.Sources.{note_kinds}
use Rattle.further_notes.proofs.KindLemmas.{kind_there}
use Rattle.further_notes.proofs.main_text.note_kinds.Goals as goal

pub loop-at-init : goal.loop-at-init
loop-at-init c = record {
  list = c.in_ok-kinds.ensures.items;
  cursor_at = subst (IsAtRunBegin c.attachments-attachments.result.now) (sym c.new-cursor.ensures) (record {
    there = omega arith;
    begins = extent-nil Attached;
  });
  ahead = subst (λ (cursor : Cursor). cursor.begin ≤ 0) (sym c.new-cursor.ensures) (omega arith);
}

pub seek-attached-requires-clause-within : goal.seek-attached-requires-clause-within
seek-attached-requires-clause-within c =
    let text = c.args.text.now in
    let all : total_len c.attachments-attachments.result.now ≡ length text =
    sym (length-spread c.attachments-attachments.result.now) ∙ (ap length c.attachments-attachments.ensures
    ∙ length-map text attached_of) in
    omega (arith, all, c.len-len.ensures.len, c.loop-at-test.true)

pub loop-at-preserved : goal.loop-at-preserved
loop-at-preserved c =
    let text = c.args.text.now in
    let at = c.loop-at.at in
    let kinds : List (Option NoteKind) = note_kinds text in
    let attached : slice_get (map attached_of text) at ≡ Some c.seek-attached.result.now =
    subst (λ (bs : List Attached). slice_get bs at ≡ Some c.seek-attached.result.now) c.attachments-attachments.ensures
    c.seek-attached.ensures.value in
    let there = kind_there text at c.seek-attached.result.now attached in
    record {
      list = c.in_ok-push.ensures.items
          ∙ (ap (λ (l : List (Option NoteKind)). l ++ (c.seek-attached.result.now).note ∷ []) c.loop-at.invariant.list
          ∙ sym (take_step kinds at (c.seek-attached.result.now).note there));
      cursor_at = c.seek-attached.ensures.at;
      ahead = omega (arith, c.seek-attached.ensures.ahead);
    }

pub returns : goal.returns
returns c =
    let text = c.args.text.now in
    let kinds : List (Option NoteKind) = note_kinds text in
    c.loop-at.invariant.list
    ∙ take_all c.loop-at.at kinds (omega (
      arith,
      length-map text (λ (item : Item). item.note),
      c.len-len.ensures.len,
      c.loop-at-test.false,
    ))
