use Rattle.std.proofs.Common.{◌++◌, ap, ◌∙◌}
use Rattle.std.specs.List.{flat_map}
use Rattle.std.proofs.lemmas.List.{take_all}
use Rattle.cfb_layout.specs.Fields.{field_bytes, fields_bytes}
use Rattle.cfb_layout.proofs.fields.push_fields.Goals as goal

pub returns : goal.returns
unfolding fields_bytes
returns c = c.loop-field.invariant ∙ ap (λ fs. c.args.out.now ++ flat_map field_bytes fs)
    (take_all c.loop-field.field-index c.args.fields.now c.loop-field-test.false)
