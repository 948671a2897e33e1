use Rattle.prop_map.proofs.Public.{characters_after}
use Rattle.doc_patch.proofs.modify.modified_chp.Goals as goal

pub returns : goal.returns
returns c = record {
  is = characters_after c.args.modifier.now c.args.chp.now c.in_ok-made.made c.in_ok-made.ensures.map;
  formed = c.in_ok-made.ensures.formed;
}
