use Rattle.std.proofs.Common.{◌≡◌, take, true}
use Rattle.link_targets.specs.Links.{begins_no_field}
use Rattle.link_targets.proofs.links.is_plain.Given as goal

-- none so far begins a field
abbrev pub invariant-loop-unit : goal.invariant-loop-unit
invariant-loop-unit l = begins_no_field (take l.unit-index l.instruction) ≡ true
