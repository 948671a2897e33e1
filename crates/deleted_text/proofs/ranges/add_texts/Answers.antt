use Rattle.std.proofs.Common.{◌≡◌, ◌∙◌, ap, sym, refl, arith, ℕ, Bool, List, [], ◌++◌, append_assoc, Option}
use Rattle.std.proofs.Common.{length, take, drop}
use Rattle.std.specs.Option.{unwrap_or}
use Rattle.std.specs.List.{flat_map}
use Rattle.std.proofs.lemmas.List.{append-nil}
use Rattle.doc_bits.specs.declared.places.Story.{Story}
use Rattle.doc_model.specs.declared.item.Item.{Item}
use Rattle.doc_parts.specs.Tabulated.{tabulate}
use Rattle.doc_losses.proofs.Public.{joined_more}
use Rattle.doc_mends.specs.declared.mends.DeletedRange.{DeletedRange}
use Rattle.doc_mends.specs.Sides.{side_name}
use Rattle.deleted_text.specs.Ranges.{text_ranges, text_flags, items_before}
use Rattle.deleted_text.proofs.RangeLemmas.{left_more}
use Rattle.deleted_text.proofs.ranges.add_texts.Goals as goal

pub loop-number-init : goal.loop-number-init
unfolding tabulate
loop-number-init c = record { ranges = sym (append-nil c.args.ranges.now.items); left = refl }

pub loop-number-preserved : goal.loop-number-preserved
loop-number-preserved c =
    let texts : List (List Item) = c.args.texts.now in
    let flags : List Bool = c.args.flags.now in
    let number = c.loop-number.number in
    let side = c.args.side in
    let text = c.get.result.now in
    let left = c.loop-number.left.now in
    let front : List DeletedRange = c.args.ranges.now.items in
    let join : List (List DeletedRange) → List DeletedRange = flat_map (λ (l : List DeletedRange). l) in
    let f : ℕ → List DeletedRange = λ n. text_ranges (side_name side n) (text_flags flags texts n) in
    let own : c.front.result.now ≡ text_flags flags texts number =
    c.front.ensures
    ∙ (ap (λ (l : List Bool). take c.len-len.result l) c.loop-number.invariant.left
    ∙ (ap (λ n. take n (drop (items_before texts number) flags)) c.len-len.ensures.len
    ∙ sym (ap (λ (o : Option (List Item)). take (length (unwrap_or o [])) (drop (items_before texts number) flags))
    c.get.ensures))) in
    let found : text_ranges c.side_name.result c.front.result.now ≡ f number =
    ap (λ (s : Story). text_ranges s c.front.result.now) c.side_name.ensures
    ∙ ap (λ (l : List Bool). text_ranges (side_name side number) l) own in
    record {
      ranges = c.in_ok-add_text.ensures
          ∙ (ap (λ (l : List DeletedRange). l ++ text_ranges c.side_name.result c.front.result.now)
          c.loop-number.invariant.ranges
          ∙ (append_assoc front (join (tabulate f number)) (text_ranges c.side_name.result c.front.result.now)
          ∙ (ap (λ (l : List DeletedRange). front ++ (join (tabulate f number) ++ l)) found
          ∙ ap (λ (l : List DeletedRange). front ++ l) (sym (joined_more f number)))));
      left = c.behind-left.ensures
          ∙ (ap (drop c.len-len.result) c.loop-number.invariant.left
          ∙ (ap (λ n. drop n (drop (items_before texts number) flags)) c.len-len.ensures.len
          ∙ left_more flags texts number text c.get.ensures));
    }

pub returns : goal.returns
returns c =
    let texts : List (List Item) = c.args.texts.now in
    let front : List DeletedRange = c.args.ranges.now.items in
    let f : ℕ → List DeletedRange =
    λ n. text_ranges (side_name c.args.side n) (text_flags c.args.flags.now texts n) in
    let all : c.loop-number.number ≡ length texts =
    omega (arith, c.len-number-end.ensures.len, c.loop-number-test.false, c.loop-number.auto.number-end) in
    c.loop-number.invariant.ranges
    ∙ ap (λ (n : ℕ). front ++ flat_map (λ (l : List DeletedRange). l) (tabulate f n)) all
