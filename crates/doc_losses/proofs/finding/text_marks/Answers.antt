use Rattle.std.proofs.Common.{◌≡◌, ◌∙◌, ◌≤◌, ap, sym, subst, arith, length, map, ℕ, List, [], ◌∷◌, ◌++◌, Option, Some, slice_get}
use Rattle.std.specs.Prelude.{slice_index}
use Rattle.std.proofs.lemmas.List.{length-map}
use Rattle.std.proofs.lemmas.Option.{slice_get-get_or}
use Rattle.fib_versions.specs.declared.further.Further.{Further}
use Rattle.doc_model.specs.declared.item.Item.{Item}
use Rattle.run_lists.specs.Spread.{total_len}
use Rattle.run_lists.specs.Places.{IsAtRunBegin}
use Rattle.run_lists.specs.declared.cursor.Cursor.{Cursor}
use Rattle.run_lists.proofs.Public.{extent-nil, length-spread}
use Rattle.doc_columns.specs.declared.attached.Attached.{Attached}
use Rattle.doc_columns.specs.Attached.{attached_of}
use Rattle.doc_parts.specs.Tabulated.{tabulate}
use Rattle.doc_parts.proofs.Public.{tabulate-next}
use Rattle.doc_losses.specs.References.{marked_story_at}
use Rattle.doc_losses.specs.Marks.{names_of_marks}
use Rattle.doc_losses.proofs.ReferenceLemmas.{mark_is}
use Rattle.doc_losses.proofs.finding.text_marks.Goals as goal

pub loop-at-init : goal.loop-at-init
unfolding tabulate
loop-at-init c = record {
  list = c.in_ok-list.ensures.items;
  cursor_at = subst (IsAtRunBegin c.attachments-attachments.result.now) (sym c.new-cursor.ensures) (record {
    there = omega arith;
    begins = extent-nil Attached;
  });
  ahead = subst (λ (cursor : Cursor). cursor.begin ≤ 0) (sym c.new-cursor.ensures) (omega arith);
}

pub seek-attached-requires-clause-within : goal.seek-attached-requires-clause-within
seek-attached-requires-clause-within c =
    let text = c.args.text.now in
    let all : total_len c.attachments-attachments.result.now ≡ length text =
    sym (length-spread c.attachments-attachments.result.now) ∙ (ap length c.attachments-attachments.ensures
    ∙ length-map text attached_of) in
    let units : length c.units-units.result.now ≡ length text =
    ap length c.units-units.ensures ∙ length-map text (λ (item : Item). item.unit) in
    omega (arith, all, units, c.loop-at-test.true)

pub loop-at-preserved : goal.loop-at-preserved
loop-at-preserved c =
    let text = c.args.text.now in
    let at = c.loop-at.at in
    let units = c.units-units.result.now in
    let f : ℕ → Option Further = marked_story_at (names_of_marks c.args.marks.now) c.args.story c.args.begin text in
    let unit : slice_get (map (λ (item : Item). item.unit) text) at ≡ Some (slice_index units at) =
    subst (λ (us : List ℕ). slice_get us at ≡ Some (slice_index units at)) c.units-units.ensures
    (slice_get-get_or units at 0 c.loop-at-test.true) in
    let attached : slice_get (map attached_of text) at ≡ Some c.seek-attached.result.now =
    subst (λ (bs : List Attached). slice_get bs at ≡ Some c.seek-attached.result.now) c.attachments-attachments.ensures
    c.seek-attached.ensures.value in
    let mark : c.mark_of.result ≡ f at =
    c.mark_of.ensures
    ∙ sym (mark_is (names_of_marks c.args.marks.now) c.args.story c.args.begin at (slice_index units at) text
    c.seek-attached.result.now unit attached) in
    record {
      list = c.in_ok-push.ensures.items
          ∙ (ap (λ (l : List (Option Further)). l ++ c.mark_of.result ∷ []) c.loop-at.invariant.list
          ∙ (ap (λ (m : Option Further). tabulate f at ++ m ∷ []) mark ∙ sym (tabulate-next f at)));
      cursor_at = c.seek-attached.ensures.at;
      ahead = omega (arith, c.seek-attached.ensures.ahead);
    }
