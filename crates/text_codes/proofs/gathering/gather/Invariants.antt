use Rattle.std.proofs.Common.{◌-◌, ◌≤◌, length, take}
use Rattle.text_codes.specs.Gathered.{IsShownText}
use Rattle.text_codes.proofs.gathering.gather.Given as goal

-- the text of the units so far is at the front of the block
abbrev pub invariant-loop-count : goal.invariant-loop-count
invariant-loop-count l = record {
  inside : l.count ≤ length l.units;
  room : l.len ≤ length l.block;
  text : IsShownText l.lines (take l.count l.units) (take l.len l.block);
}

abbrev pub decreases-loop-count : goal.decreases-loop-count
decreases-loop-count l = length l.units - l.count
