use Rattle.std.proofs.Common.{◌≡◌, ◌∙◌, ◌≤◌, ap, sym, refl, subst, arith, length, map, take, ℕ, List, [], ◌∷◌, ◌++◌}
use Rattle.std.proofs.Common.{Some, Option}
use Rattle.std.specs.Prelude.{slice_get}
use Rattle.std.proofs.lemmas.List.{length-map, length-take-le, take_all}
use Rattle.doc_bits.proofs.Public.{take_step}
use Rattle.run_lists.specs.Spread.{total_len}
use Rattle.run_lists.specs.Places.{IsAtRunBegin}
use Rattle.run_lists.specs.declared.cursor.Cursor.{Cursor}
use Rattle.run_lists.proofs.Public.{extent-nil, length-spread}
use Rattle.doc_model.specs.declared.item.Item.{Item}
use Rattle.doc_model.specs.declared.item.NoteKind.{NoteKind}
use Rattle.doc_columns.specs.declared.attached.Attached.{Attached}
use Rattle.doc_columns.specs.Attached.{attached_of}
use Rattle.further_notes.specs.Sources.{note_kind_at}
use Rattle.further_notes.specs.Splices.{attached_noted, with_kinds}
use Rattle.further_notes.proofs.KindLemmas.{changed_at_place, length-with_kinds}
use Rattle.further_notes.proofs.main_text.attachments_noted.Goals as goal

pub loop-at-init : goal.loop-at-init
loop-at-init c = record {
  made = c.new-made.ensures;
  cursor_at = subst (IsAtRunBegin c.attachments-attachments.result.now) (sym c.new-cursor.ensures) (record {
    there = omega arith;
    begins = extent-nil Attached;
  });
  ahead = subst (λ (cursor : Cursor). cursor.begin ≤ 0) (sym c.new-cursor.ensures) (omega arith);
}

pub seek-requires-clause-within : goal.seek-requires-clause-within
seek-requires-clause-within c =
    let text = c.args.text.now in
    let all : total_len c.attachments-attachments.result.now ≡ length text =
    sym (length-spread c.attachments-attachments.result.now) ∙ (ap length c.attachments-attachments.ensures
    ∙ length-map text attached_of) in
    omega (arith, all, c.len-len.ensures.len, c.loop-at-test.true)

pub add-requires : goal.add-requires
add-requires c =
    let text = c.args.text.now in
    let list : List Attached = with_kinds attached_noted c.args.kinds.now (map attached_of text) in
    let long = length-with_kinds attached_noted c.args.kinds.now (map attached_of text) in
    let all = length-map text attached_of in
    let made = ap length c.loop-at.invariant.made in
    let part = length-take-le c.loop-at.at list (omega (arith, long, all, c.len-len.ensures.len, c.loop-at-test.true))
    in
    let few = c.len-len.ensures.formed.few in
    omega (arith, made, part, few, c.len-len.ensures.len, c.loop-at-test.true)

pub loop-at-preserved : goal.loop-at-preserved
loop-at-preserved c =
    let text = c.args.text.now in
    let at = c.loop-at.at in
    let kinds = c.args.kinds.now in
    let column : List Attached = map attached_of text in
    let list : List Attached = with_kinds attached_noted kinds column in
    let here : slice_get column at ≡ Some c.seek.result.now =
    subst (λ (bs : List Attached). slice_get bs at ≡ Some c.seek.result.now) c.attachments-attachments.ensures
    c.seek.ensures.value in
    let attached = c.in_ok-attached.attached in
    let there : slice_get column at ≡ Some attached =
    here ∙ ap (λ (a : Attached). Some a) (sym c.in_ok-attached.ensures) in
    let value : c.attached_noted.result ≡ attached_noted (note_kind_at kinds at) attached =
    c.attached_noted.ensures
    ∙ ap (λ (k : Option NoteKind). attached_noted k attached) c.kind_at.ensures in
    let next = changed_at_place attached_noted kinds column at attached (λ y. refl) there in
    record {
      made = c.in_ok-add.ensures.ok
          ∙ (ap (λ (l : List Attached). l ++ c.attached_noted.result ∷ []) c.loop-at.invariant.made
          ∙ (ap (λ (v : Attached). take at list ++ v ∷ []) value
          ∙ sym (take_step list at (attached_noted (note_kind_at kinds at) attached) next)));
      cursor_at = c.seek.ensures.at;
      ahead = omega (arith, c.seek.ensures.ahead);
    }

pub returns : goal.returns
returns c =
    let text = c.args.text.now in
    let column : List Attached = map attached_of text in
    let list : List Attached = with_kinds attached_noted c.args.kinds.now column in
    c.loop-at.invariant.made
    ∙ take_all c.loop-at.at list (omega (
      arith,
      length-with_kinds attached_noted c.args.kinds.now column,
      length-map text attached_of,
      c.len-len.ensures.len,
      c.loop-at-test.false,
    ))
