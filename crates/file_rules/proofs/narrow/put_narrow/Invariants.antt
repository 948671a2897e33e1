use Rattle.std.proofs.Common.{◌≡◌, ◌+◌, ◌-◌, ◌≤◌, ◌++◌, length, map, take}
use Rattle.std.specs.List.{range_with_len}
use Rattle.file_rules.specs.Units.{narrow_unit}
use Rattle.file_rules.proofs.narrow.put_narrow.Given as goal

-- the first units are there
abbrev pub invariant-loop-done : goal.invariant-loop-done
invariant-loop-done l = record {
  within : l.done ≤ l.len;
  len : length l.units ≡ length l.fn.units;
  put : take (l.cp + l.done) l.units ≡ take l.cp l.fn.units ++ map (narrow_unit l.wd l.at) (range_with_len 0 l.done);
}

abbrev pub decreases-loop-done : goal.decreases-loop-done
decreases-loop-done l = l.len - l.done
