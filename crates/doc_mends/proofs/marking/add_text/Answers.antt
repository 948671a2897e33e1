use Rattle.std.proofs.Common.{◌≡◌, ◌∙◌, ◌≤◌, ap, sym, subst, arith, length, map, ℕ, List, [], ◌∷◌, ◌++◌, Option, Some, slice_get}
use Rattle.std.proofs.Common.{append_assoc}
use Rattle.std.specs.List.{filter_map}
use Rattle.std.proofs.lemmas.List.{length-map, append-nil}
use Rattle.run_lists.specs.Spread.{total_len}
use Rattle.run_lists.specs.Places.{IsAtRunBegin}
use Rattle.run_lists.specs.declared.cursor.Cursor.{Cursor}
use Rattle.run_lists.proofs.Public.{extent-nil, length-spread}
use Rattle.doc_columns.specs.declared.attached.Attached.{Attached}
use Rattle.doc_columns.specs.Attached.{attached_of}
use Rattle.doc_parts.specs.Tabulated.{tabulate}
use Rattle.doc_losses.proofs.Public.{listed_more}
use Rattle.doc_mends.specs.declared.mends.WrongMark.{WrongMark}
use Rattle.doc_mends.specs.NormalMarks.{wrong_mark_at}
use Rattle.doc_mends.proofs.NormalLemmas.{wrong_is}
use Rattle.doc_mends.proofs.marking.add_text.Goals as goal

pub loop-at-init : goal.loop-at-init
unfolding tabulate
loop-at-init c = record {
  list = sym (append-nil c.args.list.now.items);
  cursor_at = subst (IsAtRunBegin c.attachments-attachments.result.now) (sym c.new-cursor.ensures) (record {
    there = omega arith;
    begins = extent-nil Attached;
  });
  ahead = subst (λ (cursor : Cursor). cursor.begin ≤ 0) (sym c.new-cursor.ensures) (omega arith);
}

pub seek-attached-requires-clause-within : goal.seek-attached-requires-clause-within
seek-attached-requires-clause-within c =
    let text = c.args.text.now in
    let all : total_len c.attachments-attachments.result.now ≡ length text =
    sym (length-spread c.attachments-attachments.result.now) ∙ (ap length c.attachments-attachments.ensures
    ∙ length-map text attached_of) in
    omega (arith, all, c.len-at-end.ensures.len, c.loop-at-test.true)

pub loop-at-preserved : goal.loop-at-preserved
loop-at-preserved c =
    let text = c.args.text.now in
    let at = c.loop-at.at in
    let sheet = c.args.sheet.now in
    let front : List WrongMark = c.args.list.now.items in
    let f : ℕ → Option WrongMark = wrong_mark_at sheet c.args.story text in
    let pick : List (Option WrongMark) → List WrongMark = filter_map (λ (o : Option WrongMark). o) in
    let attached : slice_get (map attached_of text) at ≡ Some c.seek-attached.result.now =
    subst (λ (bs : List Attached). slice_get bs at ≡ Some c.seek-attached.result.now) c.attachments-attachments.ensures
    c.seek-attached.ensures.value in
    let mark : c.wrong_in.result ≡ f at =
    c.wrong_in.ensures ∙ sym (wrong_is sheet c.args.story text at c.seek-attached.result.now attached) in
    record {
      list = c.in_ok-add_found.ensures
          ∙ (ap (λ (l : List WrongMark). l ++ pick (c.wrong_in.result ∷ [])) c.loop-at.invariant.list
          ∙ (append_assoc front (pick (tabulate f at)) (pick (c.wrong_in.result ∷ []))
          ∙ (ap (λ (o : Option WrongMark). front ++ (pick (tabulate f at) ++ pick (o ∷ []))) mark
          ∙ ap (λ (l : List WrongMark). front ++ l) (sym (listed_more f at)))));
      cursor_at = c.seek-attached.ensures.at;
      ahead = omega (arith, c.seek-attached.ensures.ahead);
    }
