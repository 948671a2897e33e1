use Rattle.std.proofs.Common.{◌≡◌, ◌∙◌, ap, arith, length, List}
use Rattle.doc_bits.proofs.Public.{there_is}
use Rattle.doc_model.specs.declared.item.Item.{Item}
use Rattle.doc_patch.specs.Changes.{changed_at}
use Rattle.doc_mends.specs.PlainRows.{plain_text}
use Rattle.doc_mends.proofs.TextLemmas.{put_mapped, all_mapped, mapped_len}
use Rattle.doc_mends.proofs.tables.plain_texts.Goals as goal

pub plain_at-requires : goal.plain_at-requires
plain_at-requires c =
    let texts : List (List Item) = c.args.texts.now in
    let len : length c.loop-k.texts ≡ length texts =
    ap length c.loop-k.invariant ∙ mapped_len plain_text texts c.loop-k.k in
    omega (arith, len, c.len-k-end.ensures.len, c.loop-k-test.true)

pub loop-k-preserved : goal.loop-k-preserved
loop-k-preserved c =
    let texts : List (List Item) = c.args.texts.now in
    let k = c.loop-k.k in
    let it = there_is texts k (omega (arith, c.len-k-end.ensures.len, c.loop-k-test.true)) in
    c.in_ok-plain_at.ensures
    ∙ (ap (λ (l : List (List Item)). changed_at l k plain_text) c.loop-k.invariant
    ∙ put_mapped plain_text texts k it.0 it.1)

pub returns : goal.returns
returns c =
    c.loop-k.invariant
    ∙ all_mapped plain_text c.args.texts.now c.loop-k.k
    (omega (arith, c.len-k-end.ensures.len, c.loop-k-test.false))
