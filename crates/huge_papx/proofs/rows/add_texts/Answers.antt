use Rattle.std.proofs.Common.{◌≡◌, ◌∙◌, ap, sym, refl, arith, ℕ, List, [], ◌++◌, append_assoc, Option, Some, length, drop}
use Rattle.std.specs.Prelude.{slice_get}
use Rattle.std.specs.Option.{unwrap_or}
use Rattle.std.specs.List.{flat_map}
use Rattle.std.proofs.lemmas.List.{append-nil}
use Rattle.doc_bits.specs.declared.places.Story.{Story}
use Rattle.doc_model.specs.declared.item.Item.{Item}
use Rattle.doc_parts.specs.Tabulated.{tabulate}
use Rattle.doc_losses.proofs.Public.{joined_more}
use Rattle.doc_mends.specs.Sides.{side_name}
use Rattle.deleted_text.specs.Ranges.{items_before}
use Rattle.deleted_text.proofs.Public.{left_more}
use Rattle.huge_papx.specs.declared.definitions.RowDefinition.{RowDefinition}
use Rattle.huge_papx.specs.declared.rows.DefinedRow.{DefinedRow}
use Rattle.huge_papx.specs.Rows.{text_rows}
use Rattle.huge_papx.proofs.rows.add_texts.Goals as goal

pub loop-number-init : goal.loop-number-init
unfolding tabulate
loop-number-init c = record { rows = sym (append-nil c.args.rows.now.items); left = refl }

pub loop-number-preserved : goal.loop-number-preserved
loop-number-preserved c =
    let texts : List (List Item) = c.args.texts.now in
    let found : List (Option RowDefinition) = c.args.definitions.now in
    let number = c.loop-number.number in
    let side = c.args.side in
    let text = c.get-text.result.now in
    let left = c.loop-number.left.now in
    let front : List DefinedRow = c.args.rows.now.items in
    let join : List (List DefinedRow) → List DefinedRow = flat_map (λ (l : List DefinedRow). l) in
    let f : ℕ → List DefinedRow =
    λ n. text_rows (side_name side n) (drop (items_before texts n) found) (unwrap_or (slice_get texts n) []) in
    let own : text ≡ unwrap_or (slice_get texts number) [] =
    sym (ap (λ (o : Option (List Item)). unwrap_or o []) c.get-text.ensures) in
    let here : text_rows c.side_name.result left text ≡ f number =
    ap (λ (s : Story). text_rows s left text) c.side_name.ensures
    ∙ (ap (λ (l : List (Option RowDefinition)). text_rows (side_name side number) l text) c.loop-number.invariant.left
    ∙ ap (λ (t : List Item). text_rows (side_name side number) (drop (items_before texts number) found) t) own) in
    record {
      rows = c.in_ok-add_text.ensures
          ∙ (ap (λ (l : List DefinedRow). l ++ text_rows c.side_name.result left text) c.loop-number.invariant.rows
          ∙ (append_assoc front (join (tabulate f number)) (text_rows c.side_name.result left text)
          ∙ (ap (λ (l : List DefinedRow). front ++ (join (tabulate f number) ++ l)) here
          ∙ ap (λ (l : List DefinedRow). front ++ l) (sym (joined_more f number)))));
      left = c.behind-left.ensures
          ∙ (ap (drop c.len-len.result) c.loop-number.invariant.left
          ∙ (ap (λ n. drop n (drop (items_before texts number) found)) c.len-len.ensures.len
          ∙ left_more found texts number text c.get-text.ensures));
    }

pub returns : goal.returns
returns c =
    let texts : List (List Item) = c.args.texts.now in
    let found : List (Option RowDefinition) = c.args.definitions.now in
    let front : List DefinedRow = c.args.rows.now.items in
    let f : ℕ → List DefinedRow =
    λ n. text_rows (side_name c.args.side n) (drop (items_before texts n) found) (unwrap_or (slice_get texts n) []) in
    let all : c.loop-number.number ≡ length texts =
    omega (arith, c.len-number-end.ensures.len, c.loop-number-test.false, c.loop-number.auto.number-end) in
    c.loop-number.invariant.rows
    ∙ ap (λ (n : ℕ). front ++ flat_map (λ (l : List DefinedRow). l) (tabulate f n)) all
