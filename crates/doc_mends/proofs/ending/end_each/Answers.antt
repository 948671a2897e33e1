use Rattle.std.proofs.Common.{◌≡◌, ◌∙◌, ap, arith, length, List, Bool, map, take, drop, ◌++◌}
use Rattle.doc_bits.proofs.Public.{there_is}
use Rattle.doc_model.specs.declared.item.Item.{Item}
use Rattle.doc_patch.specs.Changes.{changed_at}
use Rattle.doc_mends.specs.Ends.{with_end, is_heads}
use Rattle.doc_mends.proofs.TextLemmas.{put_mapped, all_mapped, mapped_len}
use Rattle.doc_mends.proofs.ending.end_each.Goals as goal

pub end_at-requires : goal.end_at-requires
end_at-requires c =
    let texts : List (List Item) = c.args.texts.now in
    let len : length c.loop-k.texts ≡ length texts =
    ap length c.loop-k.invariant ∙ mapped_len (with_end (is_heads c.args.side)) texts c.loop-k.k in
    omega (arith, len, c.len-k-end.ensures.len, c.loop-k-test.true)

pub loop-k-preserved : goal.loop-k-preserved
loop-k-preserved c =
    let texts : List (List Item) = c.args.texts.now in
    let f = with_end (is_heads c.args.side) in
    let k = c.loop-k.k in
    let it = there_is texts k (omega (arith, c.len-k-end.ensures.len, c.loop-k-test.true)) in
    c.in_ok-end_at.ensures
    ∙ (ap (λ (l : List (List Item)). changed_at l k (with_end c.is_heads.result)) c.loop-k.invariant
    ∙ (ap (λ (b : Bool). changed_at (map f (take k texts) ++ drop k texts) k (with_end b)) c.is_heads.ensures
    ∙ put_mapped f texts k it.0 it.1))

pub returns : goal.returns
returns c =
    c.loop-k.invariant
    ∙ all_mapped (with_end (is_heads c.args.side)) c.args.texts.now c.loop-k.k
    (omega (arith, c.len-k-end.ensures.len, c.loop-k-test.false))
