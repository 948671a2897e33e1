use Rattle.std.proofs.Common.{◌≡◌, ◌-◌, ◌≤◌, length, take}
use Rattle.text_codes.specs.Gathered.{HasTextBehind}
use Rattle.text_codes.proofs.gathering.gather_units.Given as goal

-- the units so far have their text behind the first bytes
abbrev pub invariant-loop-count : goal.invariant-loop-count
invariant-loop-count l = record {
  long : length l.block ≡ length l.fn.block;
  inside : l.count ≤ l.most;
  text : HasTextBehind l.lines (take l.count l.units) (take l.len l.fn.block) l.block l.end;
}

abbrev pub decreases-loop-count : goal.decreases-loop-count
decreases-loop-count l = l.most - l.count
