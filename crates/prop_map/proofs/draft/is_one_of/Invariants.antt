use Rattle.std.proofs.Common.{◌≡◌, false, map as each, take}
use Rattle.sprm_table.specs.Codes.{is_code_among}
use Rattle.prop_map.proofs.draft.is_one_of.Given as goal

abbrev pub invariant-loop-other : goal.invariant-loop-other
invariant-loop-other l = is_code_among l.code (each (λ c. c.0) (take l.other-index l.codes)) ≡ false
