-- The texts, one by one.
use Rattle.std.proofs.Common.{◌∙◌, ◌+◌, ◌++◌, List, sym, ap, arith, append-nil}
use Rattle.std.specs.List.{flat_map}
use Rattle.std.proofs.lemmas.List.{take_all}
use Rattle.doc_model.specs.declared.item.Item.{Item}
use Rattle.doc_pictures.specs.Places.{places_in}
use Rattle.doc_pictures.proofs.PlaceLemmas.{texts-on}
use Rattle.doc_pictures.proofs.places.push_texts.Goals as goal

pub loop-k-init : goal.loop-k-init
loop-k-init c = sym (append-nil c.args.places.now.items)

pub loop-k-preserved : goal.loop-k-preserved
loop-k-preserved c =
    texts-on c.args.places.now.items c.loop-k.places.items c.push_text.new.places.items c.args.texts.now c.loop-k.k
    c.get.result.now c.get.ensures c.loop-k.invariant c.in_ok-push_text.ensures

pub returns : goal.returns
returns c =
    c.loop-k.invariant
    ∙ ap (λ (texts : List (List Item)). c.args.places.now.items ++ flat_map places_in texts)
    (take_all c.loop-k.k c.args.texts.now (omega arith))
