-- The items of the text, one by one.
use Rattle.std.proofs.Common.{◌∙◌, ◌+◌, ◌++◌, List, sym, ap, arith, append-nil}
use Rattle.std.proofs.lemmas.List.{take_all}
use Rattle.doc_bits.proofs.Public.{there_is}
use Rattle.doc_model.specs.declared.item.Item.{Item}
use Rattle.doc_columns.specs.Walks.{items_in}
use Rattle.doc_columns.proofs.Public.{first_walk, items_long, later_walk}
use Rattle.doc_pictures.specs.Places.{places_in}
use Rattle.doc_pictures.proofs.PlaceLemmas.{text-on}
use Rattle.doc_pictures.proofs.places.push_text.Goals as goal

pub loop-i-init : goal.loop-i-init
loop-i-init c = record {
  walk = first_walk c.parts-parts.result c.new-walk.result c.new-walk.ensures;
  places = sym (append-nil c.args.places.now.items);
}

pub loop-i-preserved : goal.loop-i-preserved
loop-i-preserved c =
    let parts = c.parts-parts.result in
    let old = c.loop-i in
    let are = c.parts-parts.ensures.parts in
    let one = there_is (items_in parts) old.i (omega (arith, items_long parts are)) in
    record {
      walk = later_walk parts c.place_at-place.new.walk old.i (old.i + 1) c.place_at-place.ensures.walk (omega arith);
      places =
          text-on c.args.places.now.items old.places.items c.push_some.new.places.items (items_in parts) old.i one.0
          c.place_at-place.result one.1 old.invariant.places (c.place_at-place.ensures.place one.0 one.1)
          c.in_ok-push_some.ensures;
    }

pub returns : goal.returns
returns c =
    let parts = c.parts-parts.result in
    let are = c.parts-parts.ensures.parts in
    c.loop-i.invariant.places
    ∙ ap (λ (items : List Item). c.args.places.now.items ++ places_in items)
    (take_all c.loop-i.i (items_in parts) (omega (arith, items_long parts are)) ∙ c.parts-parts.ensures.items)
