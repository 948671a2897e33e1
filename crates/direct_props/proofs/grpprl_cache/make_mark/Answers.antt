use Rattle.std.proofs.Common.{◌∙◌, ap}
use Rattle.std.specs.Option.{unwrap_or}
use Rattle.prop_map.specs.Modifiers.{mark_style}
use Rattle.direct_props.proofs.grpprl_cache.make_mark.Goals as goal

pub returns : goal.returns
returns c = record {
  made = c.in_ok-acted.acted.map;
  style = c.in_ok-acted.acted.istd;
  makes = c.in_ok-acted.ensures.made;
  style_is = c.unwrap_or.ensures
      ∙ (ap (λ o. unwrap_or o c.unwrap_or-istd.result) c.in_ok-after.ensures.style
      ∙ ap (λ k. mark_style c.args.modifier.now k) (c.unwrap_or-istd.ensures ∙ ap (λ n. unwrap_or
      c.in_ok-acted.acted.istd n) c.get16.ensures));
  modified = c.in_ok-after.ensures.map;
  formed = λ by. c.in_ok-after.ensures.formed by c.in_ok-acted.ensures.formed;
}
