use Rattle.std.proofs.Common.{◌≡◌, ◌∙◌, ◌+◌, ◌-◌, ◌*◌, ◌^◌, ◌<◌, ◌≤◌, ap, sym, rules, arith, length, take, get_or, ℕ, List, []}
use Rattle.std.proofs.Common.{◌++◌, append_assoc, Option}
use Rattle.std.specs.Option.{unwrap_or}
use Rattle.std.specs.List.{sum_by, flat_map}
use Rattle.std.proofs.lemmas.List.Sums.{sum_by_more}
use Rattle.std.proofs.lemmas.Option.{get_or_from_slice_get}
use Rattle.doc_bits.specs.declared.places.Story.TheVariants.{Head}
use Rattle.doc_model.specs.declared.item.Item.{Item}
use Rattle.doc_parts.specs.Tabulated.{tabulate}
use Rattle.text_losses.specs.declared.features.Reference.{Reference}
use Rattle.doc_losses.specs.References.{Names, text_references, head_references, head_begin, head_at}
use Rattle.doc_losses.specs.Marks.{names_of_marks}
use Rattle.doc_losses.proofs.ListingLemmas.{joined_more}
use Rattle.doc_losses.proofs.finding.add_heads.Goals as goal

pub loop-number-init : goal.loop-number-init
unfolding tabulate
loop-number-init c = search rules

pub loop-number-preserved : goal.loop-number-preserved
loop-number-preserved c =
    let heads : List (List Item) = c.args.heads.now in
    let number = c.loop-number.number in
    let text : List Item = c.get-text.result.now in
    let names : Names = names_of_marks c.args.marks.now in
    let front : List Reference = c.args.list.now.items in
    let here : get_or heads number text ≡ text = get_or_from_slice_get heads number text text c.get-text.ensures in
    let there : head_at heads number ≡ text = ap (λ (o : Option (List Item)). unwrap_or o []) c.get-text.ensures in
    let more : sum_by length (take (number + 1) heads) ≡ sum_by length (take number heads) + length
    (get_or heads number text) = sum_by_more length heads number text (omega (
      arith,
      c.len-number-end.ensures.len,
      c.loop-number-test.true,
    )) in
    let sum : sum_by length (take (number + 1) heads) ≡ sum_by length (take number heads) + length text =
    more ∙ ap (λ (t : List Item). sum_by length (take number heads) + length t) here in
    let len : c.len-len.result ≡ length text = c.len-len.ensures.len in
    let before : c.loop-number.begin ≡ sum_by length (take number heads) = c.loop-number.invariant.begin in
    let few : length text < 2 ^ 32 = c.len-len.ensures.formed.few in
    let all : c.loop-number.begin ≤ number * (2 ^ 32 - 1) = c.loop-number.invariant.few in
    let found : text_references names (Head number) c.loop-number.begin text ≡ head_references names heads number =
    ap (λ (b : ℕ). text_references names (Head number) b text) before
    ∙ ap (λ (t : List Item). text_references names (Head number) (head_begin heads number) t) (sym there) in
    record {
      list = c.in_ok-add_text.ensures
          ∙ (ap (λ (l : List Reference). l ++ text_references names (Head number) c.loop-number.begin text)
          c.loop-number.invariant.list
          ∙ (append_assoc front (flat_map (λ (l : List Reference). l) (tabulate (head_references names heads) number))
          (text_references names (Head number) c.loop-number.begin text)
          ∙ (ap (λ (l : List Reference). front ++ (flat_map (λ (m : List Reference). m) (tabulate (head_references names
          heads) number) ++ l)) found
          ∙ ap (λ (l : List Reference). front ++ l) (sym (joined_more (head_references names heads) number)))));
      begin = omega (arith, sum, len, before);
      few = omega (arith, len, few, all);
    }
