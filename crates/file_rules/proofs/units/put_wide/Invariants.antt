use Rattle.std.proofs.Common.{◌≡◌, ◌+◌, ◌++◌, length, map, take}
use Rattle.std.specs.List.{range_with_len}
use Rattle.file_rules.specs.Units.{wide_unit}
use Rattle.file_rules.proofs.units.put_wide.Given as goal

-- the first units are there
abbrev pub invariant-loop-j : goal.invariant-loop-j
invariant-loop-j l = record {
  len : length l.units ≡ length l.fn.units;
  put : take (l.cp + l.j) l.units ≡ take l.cp l.fn.units ++ map (wide_unit l.wd l.at) (range_with_len 0 l.j);
}
