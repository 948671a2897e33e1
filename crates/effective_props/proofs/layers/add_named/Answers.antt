use Rattle.std.proofs.Common.{arith}
use Rattle.effective_props.proofs.LayerLemmas.{named_bytes, foreign_named}
use Rattle.effective_props.proofs.layers.add_named.Goals as goal

pub get16-named-requires : goal.get16-named-requires
get16-named-requires c = let two = named_bytes c.args.direct.now c.in-Some.value.now c.requires.direct
    c.in-Some.ensures in omega (arith, two)

pub returns-else-is_character_style : goal.returns-else-is_character_style
returns-else-is_character_style c =
    foreign_named c.args.sheet.now c.args.direct.now c.in-Some.value.now c.get16-named.result c.args.layers.now.items
    c.in-Some.ensures c.get16-named.ensures (λ is. absurd (cc (
      c.is_character_style.ensures.1 is,
      c.if-is_character_style.false,
    )))
