use Rattle.std.proofs.Common.{◌≡◌, ◌∙◌, ap, length, List, arith}
use Rattle.std.specs.List.{splice}
use Rattle.doc_model.specs.declared.item.Item.{Item}
use Rattle.doc_patch.proofs.MakingLemmas.{whole_range}
use Rattle.doc_patch.proofs.making.splice_texts.Goals as goal

pub splice-requires-clause-few : goal.splice-requires-clause-few
splice-requires-clause-few c =
    let copy : c.in_ok-copy.copy ≡ c.args.fresh.now =
    c.in_ok-copy.ensures ∙ whole_range c.args.fresh.now c.len.result c.len.ensures.len in
    omega (arith, ap length copy, c.requires.few)

pub returns : goal.returns
returns c =
    let copy : c.in_ok-copy.copy ≡ c.args.fresh.now =
    c.in_ok-copy.ensures ∙ whole_range c.args.fresh.now c.len.result c.len.ensures.len in
    c.in_ok-splice.ensures.ok
    ∙ ap (λ (t : List (List Item)). splice c.args.texts.now c.args.from c.args.to t) copy
