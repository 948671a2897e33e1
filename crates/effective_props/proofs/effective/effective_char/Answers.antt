use Rattle.std.proofs.Common.{subst}
use Rattle.effective_props.specs.Values.{IsEffectiveMap}
use Rattle.prop_map.specs.Formed.{character_groups}
use Rattle.effective_props.proofs.FormedLemmas.{effective_formed}
use Rattle.effective_props.proofs.FormedLayerLemmas.{character_formed}
use Rattle.effective_props.proofs.effective.effective_char.Goals as goal

pub returns-clause-effective : goal.returns-clause-effective
returns-clause-effective c = record {
  layers = c.in_ok-layers.layers.items;
  are = c.in_ok-layers.ensures;
  values = subst (λ l. IsEffectiveMap l c.in_ok-map.map) c.deref.ensures.value c.in_ok-map.ensures;
}

pub returns-clause-formed : goal.returns-clause-formed
returns-clause-formed c =
    let layers = c.in_ok-layers.layers.items in
    let values = subst (λ l. IsEffectiveMap l c.in_ok-map.map) c.deref.ensures.value c.in_ok-map.ensures in
    effective_formed character_groups layers c.in_ok-map.map (character_formed c.args.sheet.now c.args.istd
    c.args.direct.now layers c.slots-slots.ensures.formed c.requires.direct c.in_ok-layers.ensures) values
