-- The text is taken out, spliced and put back.
use Rattle.std.proofs.Common.{◌≡◌, ◌∙◌, ap, length, List, arith}
use Rattle.std.specs.List.{splice}
use Rattle.doc_model.specs.declared.item.Item.{Item}
use Rattle.doc_patch.specs.Makes.{CanSplice}
use Rattle.doc_patch.proofs.MakingLemmas.{any_text, such_text, has_hole, text_back, whole_range}
use Rattle.doc_patch.proofs.making.splice_items.Goals as goal

pub take_text-text-requires : goal.take_text-text-requires
take_text-text-requires c =
    any_text c.args.document.now c.args.story (CanSplice c.args.from c.args.to c.args.fresh.now) c.requires

pub splice-requires-clause-ordered : goal.splice-requires-clause-ordered
splice-requires-clause-ordered c =
    (such_text c.args.document.now c.args.story (CanSplice c.args.from c.args.to c.args.fresh.now)
    c.take_text-text.result c.requires c.take_text-text.ensures.taken).ordered

pub splice-requires-clause-within : goal.splice-requires-clause-within
splice-requires-clause-within c =
    (such_text c.args.document.now c.args.story (CanSplice c.args.from c.args.to c.args.fresh.now)
    c.take_text-text.result c.requires c.take_text-text.ensures.taken).within

pub splice-requires-clause-few : goal.splice-requires-clause-few
splice-requires-clause-few c =
    let copy : c.in_ok-copy.copy ≡ c.args.fresh.now =
    c.in_ok-copy.ensures ∙ whole_range c.args.fresh.now c.len.result c.len.ensures.len in
    let long = ap length copy in
    let few = (such_text c.args.document.now c.args.story (CanSplice c.args.from c.args.to c.args.fresh.now)
    c.take_text-text.result c.requires c.take_text-text.ensures.taken).few in
    omega (arith, long, few)

pub put_text-requires : goal.put_text-requires
put_text-requires c =
    has_hole c.args.story c.args.document.now c.take_text-text.new.document c.take_text-text.result
    c.take_text-text.ensures.taken c.take_text-text.ensures.left

pub returns : goal.returns
returns c =
    let copy : c.in_ok-copy.copy ≡ c.args.fresh.now =
    c.in_ok-copy.ensures ∙ whole_range c.args.fresh.now c.len.result c.len.ensures.len in
    let made : c.in_ok-made.made ≡ splice c.take_text-text.result c.args.from c.args.to c.args.fresh.now =
    c.in_ok-made.ensures
    ∙ ap (λ (t : List Item). splice c.take_text-text.result c.args.from c.args.to t) copy in
    text_back (λ text. splice text c.args.from c.args.to c.args.fresh.now) c.args.story c.args.document.now
    c.take_text-text.new.document c.put_text.new.document c.take_text-text.result c.in_ok-made.made
    c.take_text-text.ensures.taken c.take_text-text.ensures.left made c.put_text.ensures
