use Rattle.std.proofs.Common.{◌≡◌, ◌∙◌, ap, sym, ℕ, List, [], ◌++◌, append_assoc, Option, slice_get, Bool}
use Rattle.std.specs.Option.{unwrap_or}
use Rattle.std.specs.List.{flat_map}
use Rattle.std.proofs.lemmas.List.{append-nil}
use Rattle.doc_bits.specs.declared.places.Story.{Story}
use Rattle.doc_model.specs.declared.item.Item.{Item}
use Rattle.doc_parts.specs.Tabulated.{tabulate}
use Rattle.doc_losses.proofs.Public.{joined_more}
use Rattle.doc_mends.specs.Sides.{side_name}
use Rattle.doc_mends.specs.Ends.{open_text, is_heads}
use Rattle.doc_mends.proofs.ending.add_open.Goals as goal

pub loop-number-init : goal.loop-number-init
unfolding tabulate
loop-number-init c = sym (append-nil c.args.list.now.items)

pub loop-number-preserved : goal.loop-number-preserved
loop-number-preserved c =
    let texts : List (List Item) = c.args.texts.now in
    let number = c.loop-number.number in
    let side = c.args.side in
    let front : List Story = c.args.list.now.items in
    let text : List Item = c.get-text.result.now in
    let join : List (List Story) → List Story = flat_map (λ (l : List Story). l) in
    let f : ℕ → List Story =
    λ n. open_text (is_heads side) (side_name side n) (unwrap_or (slice_get texts n) []) in
    let found : open_text c.is_heads.result c.side_name.result text ≡ f number =
    ap (λ (b : Bool). open_text b c.side_name.result text) c.is_heads.ensures
    ∙ (ap (λ (s : Story). open_text (is_heads side) s text) c.side_name.ensures
    ∙ sym (ap (λ (o : Option (List Item)). open_text (is_heads side) (side_name side number) (unwrap_or o []))
    c.get-text.ensures)) in
    c.in_ok-add_where_open.ensures
    ∙ (ap (λ (l : List Story). l ++ open_text c.is_heads.result c.side_name.result text) c.loop-number.invariant
    ∙ (append_assoc front (join (tabulate f number)) (open_text c.is_heads.result c.side_name.result text)
    ∙ (ap (λ (l : List Story). front ++ (join (tabulate f number) ++ l)) found
    ∙ ap (λ (l : List Story). front ++ l) (sym (joined_more f number)))))
