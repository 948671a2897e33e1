use Rattle.std.proofs.Common.{◌≡◌, ◌∙◌, ◌+◌, ◌-◌, ◌^◌, ◌<◌, ap, sym, arith, length, take, get_or, List}
use Rattle.std.proofs.Common.{slice_get, Some}
use Rattle.std.specs.List.{sum_by}
use Rattle.std.proofs.lemmas.List.Sums.{sum_by_more}
use Rattle.std.proofs.lemmas.Option.{get_or_from_slice_get}
use Rattle.doc_bits.specs.declared.places.Story.TheVariants.{Head}
use Rattle.doc_bits.proofs.Public.{there_is}
use Rattle.doc_model.specs.declared.item.Item.{Item}
use Rattle.doc_patch.specs.Changes.{changed_at}
use Rattle.doc_losses.specs.References.{Names, head_begin}
use Rattle.doc_losses.specs.Marks.{names_of_marks}
use Rattle.doc_mends.specs.Cuts.{cut_text}
use Rattle.doc_mends.proofs.HeadLemmas.{first_heads, heads_long, head_there, heads_more, all_heads}
use Rattle.doc_mends.proofs.cutting.cut_heads.Goals as goal

pub loop-number-init : goal.loop-number-init
loop-number-init c = record {
  heads = first_heads (names_of_marks c.args.marks.now) c.args.heads.now;
  within = omega arith;
  begin = omega arith;
  few = omega arith;
}

pub get-requires : goal.get-requires
get-requires c =
    let heads : List (List Item) = c.args.heads.now in
    let number = c.loop-number.number in
    let low : number < length heads = omega (arith, c.len-number-end.ensures.len, c.loop-number-test.true) in
    let same = ap length c.loop-number.invariant.heads in
    let long = heads_long (names_of_marks c.args.marks.now) heads number (omega (arith, low)) in
    omega (arith, low, same, long)

pub cut_head-requires-clause-there : goal.cut_head-requires-clause-there
cut_head-requires-clause-there c =
    let heads : List (List Item) = c.args.heads.now in
    let number = c.loop-number.number in
    let low : number < length heads = omega (arith, c.len-number-end.ensures.len, c.loop-number-test.true) in
    let same = ap length c.loop-number.invariant.heads in
    let long = heads_long (names_of_marks c.args.marks.now) heads number (omega (arith, low)) in
    omega (arith, low, same, long)

pub loop-number-preserved : goal.loop-number-preserved
loop-number-preserved c =
    let heads : List (List Item) = c.args.heads.now in
    let number = c.loop-number.number in
    let names : Names = names_of_marks c.args.marks.now in
    let text : List Item = c.get.result.now in
    let before = c.loop-number.invariant in
    let low : number < length heads = omega (arith, c.len-number-end.ensures.len, c.loop-number-test.true) in
    let old = there_is heads number low in
    let is : slice_get heads number ≡ Some text =
    head_there names heads number text old.0 old.1
    (ap (λ (l : List (List Item)). slice_get l number) (sym before.heads) ∙ c.get.ensures) in
    let here : get_or heads number text ≡ text = get_or_from_slice_get heads number text text is in
    let more : head_begin heads (number + 1) ≡ head_begin heads number + length text =
    sum_by_more length heads number text low
    ∙ ap (λ (t : List Item). sum_by length (take number heads) + length t) here in
    let len : c.len-len.result ≡ length text = c.len-len.ensures.len in
    let few : length text < 2 ^ 32 = c.len-len.ensures.formed.few in
    record {
      heads = c.in_ok-cut_head.ensures
          ∙ (ap (λ (l : List (List Item)). changed_at l number (cut_text names (Head number) c.loop-number.begin))
          before.heads
          ∙ heads_more names heads number c.loop-number.begin text is before.begin);
      within = omega (arith, low);
      begin = omega (arith, more, len, before.begin);
      few = omega (arith, len, few, before.few);
    }

pub returns : goal.returns
returns c =
    c.loop-number.invariant.heads
    ∙ all_heads (names_of_marks c.args.marks.now) c.args.heads.now c.loop-number.number c.loop-number.invariant.within
    (omega (arith, c.len-number-end.ensures.len, c.loop-number-test.false))
