use Rattle.std.proofs.Common.{◌≡◌, ◌∙◌, ◌≤◌, ap, sym, subst, refl, arith, length, map, ℕ, List, [], ◌∷◌, ◌++◌, Option, Some}
use Rattle.std.proofs.Common.{append_assoc, slice_get}
use Rattle.std.specs.Prelude.{slice_index}
use Rattle.std.specs.List.{filter_map}
use Rattle.std.proofs.lemmas.List.{length-map, append-nil}
use Rattle.std.proofs.lemmas.Option.{slice_get-get_or}
use Rattle.run_lists.specs.Spread.{total_len}
use Rattle.run_lists.specs.Places.{IsAtRunBegin}
use Rattle.run_lists.specs.declared.cursor.Cursor.{Cursor}
use Rattle.run_lists.proofs.Public.{extent-nil, length-spread}
use Rattle.doc_model.specs.declared.item.Item.{Item}
use Rattle.doc_columns.specs.declared.attached.Attached.{Attached}
use Rattle.doc_columns.specs.Attached.{attached_of}
use Rattle.doc_parts.specs.Tabulated.{tabulate}
use Rattle.doc_losses.proofs.Public.{listed_more}
use Rattle.doc_mends.specs.declared.mends.BrokenRow.{BrokenRow}
use Rattle.doc_mends.specs.BrokenRows.{broken_row_at}
use Rattle.doc_mends.specs.OpenRows.{IsOpenBefore}
use Rattle.doc_mends.proofs.RowLemmas.{item_there, none_open, one_passed, found_there}
use Rattle.doc_mends.proofs.rows.add_rows.Goals as goal

pub loop-at-init : goal.loop-at-init
unfolding tabulate
loop-at-init c = record {
  list = sym (append-nil c.args.list.now.items);
  left = none_open c.args.text.now (record { len = 0; cells = 0 }) refl refl;
  cursor_at = subst (IsAtRunBegin c.attachments-attachments.result.now) (sym c.new-cursor.ensures) (record {
    there = omega arith;
    begins = extent-nil Attached;
  });
  ahead = subst (λ (cursor : Cursor). cursor.begin ≤ 0) (sym c.new-cursor.ensures) (omega arith);
}

pub seek-attached-requires-clause-within : goal.seek-attached-requires-clause-within
seek-attached-requires-clause-within c =
    let text = c.args.text.now in
    let all : total_len c.attachments-attachments.result.now ≡ length text =
    sym (length-spread c.attachments-attachments.result.now) ∙ (ap length c.attachments-attachments.ensures
    ∙ length-map text attached_of) in
    let units : length c.units-units.result.now ≡ length text =
    ap length c.units-units.ensures ∙ length-map text (λ (item : Item). item.unit) in
    omega (arith, all, units, c.loop-at-test.true)

pub loop-at-preserved : goal.loop-at-preserved
loop-at-preserved c =
    let text = c.args.text.now in
    let at = c.loop-at.at in
    let story = c.args.story in
    let units = c.units-units.result.now in
    let front : List BrokenRow = c.args.list.now.items in
    let f : ℕ → Option BrokenRow = broken_row_at story text in
    let pick : List (Option BrokenRow) → List BrokenRow = filter_map (λ (o : Option BrokenRow). o) in
    let unit : slice_get (map (λ (item : Item). item.unit) text) at ≡ Some (slice_index units at) =
    subst (λ (us : List ℕ). slice_get us at ≡ Some (slice_index units at)) c.units-units.ensures
    (slice_get-get_or units at 0 c.loop-at-test.true) in
    let attached : slice_get (map attached_of text) at ≡ Some c.seek-attached.result.now =
    subst (λ (bs : List Attached). slice_get bs at ≡ Some c.seek-attached.result.now) c.attachments-attachments.ensures
    c.seek-attached.ensures.value in
    let it = item_there text at (slice_index units at) c.seek-attached.result.now unit attached in
    let left : IsOpenBefore text at c.loop-at.row = c.loop-at.invariant.left in
    let found : c.broken_at.result ≡ f at =
    c.broken_at.ensures
    ∙ found_there story text at (slice_index units at) c.seek-attached.result.now.mark c.loop-at.row left it in
    record {
      list = c.in_ok-add_found.ensures
          ∙ (ap (λ (l : List BrokenRow). l ++ pick (c.broken_at.result ∷ [])) c.loop-at.invariant.list
          ∙ (append_assoc front (pick (tabulate f at)) (pick (c.broken_at.result ∷ []))
          ∙ (ap (λ (o : Option BrokenRow). front ++ (pick (tabulate f at) ++ pick (o ∷ []))) found
          ∙ ap (λ (l : List BrokenRow). front ++ l) (sym (listed_more f at)))));
      left = one_passed text at (slice_index units at) c.seek-attached.result.now.mark c.loop-at.row c.after-row.result
          left it
          c.after-row.ensures.len c.after-row.ensures.cells;
      cursor_at = c.seek-attached.ensures.at;
      ahead = omega (arith, c.seek-attached.ensures.ahead);
    }

pub returns-clause-rows : goal.returns-clause-rows
returns-clause-rows c =
    let text = c.args.text.now in
    let front : List BrokenRow = c.args.list.now.items in
    let f : ℕ → Option BrokenRow = broken_row_at c.args.story text in
    let units : length c.units-units.result.now ≡ length text =
    ap length c.units-units.ensures ∙ length-map text (λ (item : Item). item.unit) in
    let all : c.loop-at.at ≡ length text =
    omega (arith, units, c.loop-at-test.false, c.loop-at.auto.at-end) in
    c.loop-at.invariant.list
    ∙ ap (λ (n : ℕ). front ++ filter_map (λ (o : Option BrokenRow). o) (tabulate f n)) all

pub returns-clause-left : goal.returns-clause-left
returns-clause-left c =
    let text = c.args.text.now in
    let units : length c.units-units.result.now ≡ length text =
    ap length c.units-units.ensures ∙ length-map text (λ (item : Item). item.unit) in
    let all : c.loop-at.at ≡ length text =
    omega (arith, units, c.loop-at-test.false, c.loop-at.auto.at-end) in
    subst (λ (n : ℕ). IsOpenBefore text n c.loop-at.row) all c.loop-at.invariant.left
