use Rattle.std.proofs.Common.{◌≡◌, ◌∙◌, ◌≤◌, ap, sym, subst, refl, arith, length, map, ℕ, List, [], ◌∷◌, ◌++◌, Option, Some}
use Rattle.std.proofs.Common.{None, append_assoc, slice_get, get_or}
use Rattle.std.specs.Prelude.{option_map}
use Rattle.std.specs.Option.{option_and_then}
use Rattle.std.specs.List.{filter_map}
use Rattle.std.proofs.lemmas.List.{length-map, append-nil}
use Rattle.run_lists.specs.Spread.{total_len}
use Rattle.run_lists.specs.Places.{IsAtRunBegin}
use Rattle.run_lists.specs.declared.cursor.Cursor.{Cursor}
use Rattle.run_lists.proofs.Public.{extent-nil, length-spread}
use Rattle.doc_model.specs.declared.item.Item.{Item}
use Rattle.doc_model.specs.declared.item.Mark.{Mark}
use Rattle.doc_columns.specs.declared.attached.Attached.{Attached}
use Rattle.doc_columns.specs.Attached.{attached_of}
use Rattle.doc_parts.specs.Tabulated.{tabulate}
use Rattle.doc_losses.proofs.Public.{listed_more}
use Rattle.huge_papx.specs.declared.definitions.RowDefinition.{RowDefinition}
use Rattle.huge_papx.specs.declared.rows.DefinedRow.{DefinedRow}
use Rattle.huge_papx.specs.Rows.{HasParagraphMap, item_mark_at, row_with, defined_row_at}
use Rattle.huge_papx.proofs.MarkLemmas.{mark_there, mark_formed}
use Rattle.huge_papx.proofs.rows.add_text.Goals as goal

pub loop-at-init : goal.loop-at-init
unfolding tabulate
loop-at-init c = record {
  rows = sym (append-nil c.args.rows.now.items);
  cursor_at = subst (IsAtRunBegin c.attachments-attachments.result.now) (sym c.new-cursor.ensures) (record {
    there = omega arith;
    begins = extent-nil Attached;
  });
  ahead = subst (λ (cursor : Cursor). cursor.begin ≤ 0) (sym c.new-cursor.ensures) (omega arith);
}

pub seek-attached-requires-clause-within : goal.seek-attached-requires-clause-within
seek-attached-requires-clause-within c =
    let text = c.args.text.now in
    let all : total_len c.attachments-attachments.result.now ≡ length text =
    sym (length-spread c.attachments-attachments.result.now) ∙ (ap length c.attachments-attachments.ensures
    ∙ length-map text attached_of) in
    omega (arith, all, c.len-len.ensures.len, c.loop-at-test.true)

pub row_of_mark-requires : goal.row_of_mark-requires
row_of_mark-requires c =
    let text = c.args.text.now in
    let at = c.loop-at.at in
    let attached : slice_get (map attached_of text) at ≡ Some c.seek-attached.result.now =
    subst (λ (bs : List Attached). slice_get bs at ≡ Some c.seek-attached.result.now) c.attachments-attachments.ensures
    c.seek-attached.ensures.value in
    mark_formed text at c.seek-attached.result.now c.len-len.ensures.formed attached

pub loop-at-preserved : goal.loop-at-preserved
loop-at-preserved c =
    let text = c.args.text.now in
    let at = c.loop-at.at in
    let story = c.args.story in
    let found : List (Option RowDefinition) = c.args.definitions.now in
    let front : List DefinedRow = c.args.rows.now.items in
    let f : ℕ → Option DefinedRow = defined_row_at story found text in
    let pick : List (Option DefinedRow) → List DefinedRow = filter_map (λ (o : Option DefinedRow). o) in
    let attached : slice_get (map attached_of text) at ≡ Some c.seek-attached.result.now =
    subst (λ (bs : List Attached). slice_get bs at ≡ Some c.seek-attached.result.now) c.attachments-attachments.ensures
    c.seek-attached.ensures.value in
    let mark : item_mark_at text at ≡ c.seek-attached.result.now.mark = mark_there text at c.seek-attached.result.now
    attached in
    let here : c.in_ok-row.row ≡ f at =
    c.in_ok-row.ensures
    ∙ (ap (λ (o : Option RowDefinition). option_and_then (row_with story at c.seek-attached.result.now.mark) o)
    c.definition_at-definition.ensures
    ∙ ap (λ (m : Option Mark). option_and_then (row_with story at m) (get_or found at None)) (sym mark)) in
    record {
      rows = c.in_ok-add_found.ensures
          ∙ (ap (λ (l : List DefinedRow). l ++ pick (c.in_ok-row.row ∷ [])) c.loop-at.invariant.rows
          ∙ (append_assoc front (pick (tabulate f at)) (pick (c.in_ok-row.row ∷ []))
          ∙ (ap (λ (o : Option DefinedRow). front ++ (pick (tabulate f at) ++ pick (o ∷ []))) here
          ∙ ap (λ (l : List DefinedRow). front ++ l) (sym (listed_more f at)))));
      cursor_at = c.seek-attached.ensures.at;
      ahead = omega (arith, c.seek-attached.ensures.ahead);
    }

pub returns : goal.returns
returns c =
    let text = c.args.text.now in
    let front : List DefinedRow = c.args.rows.now.items in
    let f : ℕ → Option DefinedRow = defined_row_at c.args.story c.args.definitions.now text in
    let all : c.loop-at.at ≡ length text =
    omega (arith, c.len-len.ensures.len, c.loop-at-test.false, c.loop-at.auto.at-end) in
    c.loop-at.invariant.rows
    ∙ ap (λ (n : ℕ). front ++ filter_map (λ (o : Option DefinedRow). o) (tabulate f n)) all
