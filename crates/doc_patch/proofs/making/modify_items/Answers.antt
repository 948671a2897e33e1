-- The text is taken out, modified and put back.
use Rattle.doc_patch.specs.Changes.{map_range, modified_item}
use Rattle.doc_patch.specs.Places.{HasRange}
use Rattle.doc_patch.proofs.MakingLemmas.{any_text, such_text, has_hole, text_back}
use Rattle.doc_patch.proofs.making.modify_items.Goals as goal

pub take_text-text-requires : goal.take_text-text-requires
take_text-text-requires c = any_text c.args.document.now c.args.story (HasRange c.args.from c.args.to) c.requires.range

pub modify_text-requires-clause-range : goal.modify_text-requires-clause-range
modify_text-requires-clause-range c =
    such_text c.args.document.now c.args.story (HasRange c.args.from c.args.to) c.take_text-text.result c.requires.range
    c.take_text-text.ensures.taken

pub put_text-requires : goal.put_text-requires
put_text-requires c =
    has_hole c.args.story c.args.document.now c.take_text-text.new.document c.take_text-text.result
    c.take_text-text.ensures.taken c.take_text-text.ensures.left

pub returns : goal.returns
returns c =
    text_back (λ text. map_range (modified_item c.args.modifier.now) text c.args.from c.args.to) c.args.story
    c.args.document.now c.take_text-text.new.document c.put_text.new.document c.take_text-text.result
    c.in_ok-modified.modified c.take_text-text.ensures.taken c.take_text-text.ensures.left c.in_ok-modified.ensures
    c.put_text.ensures
