use Rattle.std.proofs.Common.{◌≡◌, ◌∙◌, ap, sym, arith, ℕ, List, [], ◌++◌, append_assoc, Option, slice_get, length}
use Rattle.std.specs.Option.{unwrap_or}
use Rattle.std.specs.List.{flat_map}
use Rattle.std.proofs.lemmas.List.{append-nil}
use Rattle.doc_bits.specs.declared.places.Story.{Story}
use Rattle.doc_model.specs.declared.item.Item.{Item}
use Rattle.doc_parts.specs.Tabulated.{tabulate}
use Rattle.doc_losses.proofs.Public.{joined_more}
use Rattle.doc_mends.specs.declared.mends.BrokenRow.{BrokenRow}
use Rattle.doc_mends.specs.Sides.{side_name}
use Rattle.doc_mends.specs.BrokenRows.{text_broken_rows}
use Rattle.doc_mends.proofs.rows.add_texts.Goals as goal

pub loop-number-init : goal.loop-number-init
unfolding tabulate
loop-number-init c = sym (append-nil c.args.list.now.items)

pub returns : goal.returns
returns c =
    let texts : List (List Item) = c.args.texts.now in
    let front : List BrokenRow = c.args.list.now.items in
    let f : ℕ → List BrokenRow =
    λ n. text_broken_rows (side_name c.args.side n) (unwrap_or (slice_get texts n) []) in
    let all : c.loop-number.number ≡ length texts =
    omega (arith, c.len-number-end.ensures.len, c.loop-number-test.false, c.loop-number.auto.number-end) in
    c.loop-number.invariant
    ∙ ap (λ (n : ℕ). front ++ flat_map (λ (l : List BrokenRow). l) (tabulate f n)) all

pub loop-number-preserved : goal.loop-number-preserved
loop-number-preserved c =
    let texts : List (List Item) = c.args.texts.now in
    let number = c.loop-number.number in
    let side = c.args.side in
    let front : List BrokenRow = c.args.list.now.items in
    let join : List (List BrokenRow) → List BrokenRow = flat_map (λ (l : List BrokenRow). l) in
    let f : ℕ → List BrokenRow =
    λ n. text_broken_rows (side_name side n) (unwrap_or (slice_get texts n) []) in
    let found : text_broken_rows c.side_name.result c.get.result.now ≡ f number =
    ap (λ (s : Story). text_broken_rows s c.get.result.now) c.side_name.ensures
    ∙ sym (ap (λ (o : Option (List Item)). text_broken_rows (side_name side number) (unwrap_or o []))
    c.get.ensures) in
    c.in_ok-add_text.ensures
    ∙ (ap (λ (l : List BrokenRow). l ++ text_broken_rows c.side_name.result c.get.result.now)
    c.loop-number.invariant
    ∙ (append_assoc front (join (tabulate f number)) (text_broken_rows c.side_name.result c.get.result.now)
    ∙ (ap (λ (l : List BrokenRow). front ++ (join (tabulate f number) ++ l)) found
    ∙ ap (λ (l : List BrokenRow). front ++ l) (sym (joined_more f number)))))
