use Rattle.direct_props.proofs.grpprl_cache.make_character.Goals as goal

pub returns : goal.returns
returns c = record {
  made = c.in_ok-acted.acted.map;
  style = c.in_ok-acted.acted.istd;
  makes = c.in_ok-acted.ensures.made;
  modified = c.in_ok-map.ensures.map;
  formed = λ by. c.in_ok-map.ensures.formed by c.in_ok-acted.ensures.formed;
}
