use Rattle.effective_props.proofs.LayerLemmas.{three_parts}
use Rattle.effective_props.proofs.layers.character_layers.Goals as goal

pub returns : goal.returns
returns c = let chain = c.in_ok-add_chain.ensures in let named = c.in_ok-add_named.ensures in record {
  of_style = chain.added;
  style = chain.layers;
  of_named = named.added;
  named = named.layers;
  are = three_parts _ _ _ _ chain.added named.added _ c.new-layers.ensures.items chain.joined named.joined
      c.in_ok-add_direct.ensures;
}
