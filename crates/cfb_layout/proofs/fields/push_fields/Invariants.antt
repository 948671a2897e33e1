use Rattle.std.proofs.Common.{◌≡◌, ◌++◌, take}
use Rattle.std.specs.List.{flat_map}
use Rattle.cfb_layout.specs.Fields.{field_bytes}
use Rattle.cfb_layout.proofs.fields.push_fields.Given as goal

abbrev pub invariant-loop-field : goal.invariant-loop-field
invariant-loop-field l = l.out ≡ l.fn.out ++ flat_map field_bytes (take l.field-index l.fields)
