use Rattle.std.proofs.Common.{length, sym, ap, ◌∙◌}
use Rattle.std.specs.List.{flat_map}
use Rattle.sprm_table.specs.Sprm.{spelling}
use Rattle.prop_map.specs.Modifiers.{style_prls}
use Rattle.prop_map.proofs.PrintedLemmas.{length-style}
use Rattle.prop_map.proofs.modifiers.style_len.Goals as goal

pub returns-in-Some-clause-len : goal.returns-in-Some-clause-len
returns-in-Some-clause-len c = sym (ap (λ istd. length (flat_map spelling (style_prls istd))) c.in-Some.is ∙
    length-style c.in-Some.field-0)
