use Rattle.std.proofs.Common.{[], refl, arith}
use Rattle.std.proofs.lemmas.List.Elements.{All-nil, All-cons}
use Rattle.prop_map.specs.Modifiers.{no_modifier, IsFormedModifier}
use Rattle.piece_table.proofs.SprmModifierLemmas.{none_formed}
use Rattle.piece_table.proofs.modifier_table.ModifierTable.new.Goals as goal

pub returns : goal.returns
returns c = λ prcs. rw (
  c.in_ok-push.ensures.items,
  c.new-modifiers.ensures.items,
  c.none.ensures,
  c.new.ensures.items,
) (record {
  first = refl;
  formed = All-cons IsFormedModifier no_modifier [] none_formed (All-nil IsFormedModifier);
  within = λ prm. omega arith;
  met = λ prm some. absurd (some refl);
})
