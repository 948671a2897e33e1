use Rattle.std.proofs.Common.{◌≡◌, ◌∙◌, ◌<◌, ◌-◌, ap, arith}
use Rattle.property_sets.specs.declared.set.PropertyPair.{PropertyPair}
use Rattle.property_sets.specs.Sets.{pair_at, pair_count}
use Rattle.property_sets.specs.Properties.{properties_of_set, value_len, typed_value_of}
use Rattle.property_sets.proofs.WalkLemmas.{properties_end, properties_step, same_property}
use Rattle.property_sets.proofs.property.properties.Goals as goal

pub loop-i-preserved : goal.loop-i-preserved
loop-i-preserved c =
    let set = c.args.set.now in
    let i = c.loop-i.i in
    let room = c.loop-i.room in
    let value = c.in_ok-value.value in
    let below : i < pair_count set = omega (arith, c.loop-i-test.true, c.pair_count-i-end.ensures) in
    let is : value ≡ typed_value_of set room (pair_at set i) =
    c.in_ok-value.ensures.is ∙ ap (typed_value_of set room) c.pair_at-pair.ensures in
    let id : c.pair_at-pair.result.id ≡ (pair_at set i).id =
    ap (λ (pair : PropertyPair). pair.id) c.pair_at-pair.ensures in
    rw (c.in_ok-keep.ensures)
    (properties_step (properties_of_set set) c.loop-i.found.items set i room (room - c.value_len-room.result)
    (record { id = c.pair_at-pair.result.id; value = value }) below c.loop-i.invariant (same_property id is)
    (ap (λ n. room - n) (c.value_len-room.ensures ∙ ap value_len is)))

pub returns : goal.returns
returns c =
    let set = c.args.set.now in
    let last : pair_count set ≡ c.loop-i.i = omega (
      arith,
      c.loop-i-test.false,
      c.loop-i.auto.i-end,
      c.pair_count-i-end.ensures,
    ) in
    properties_end (properties_of_set set) c.loop-i.found.items set c.loop-i.i c.loop-i.room last c.loop-i.invariant
