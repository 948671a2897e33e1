use Rattle.std.proofs.Common.{◌≡◌, ◌++◌, take}
use Rattle.std.specs.List.{flat_map}
use Rattle.file_mends.specs.Lines.{file_mend_line}
use Rattle.file_mends.proofs.lines.push_file_mends.Given as goal

-- the lines so far
abbrev pub invariant-loop-k : goal.invariant-loop-k
invariant-loop-k l = l.text ≡ l.fn.text ++ flat_map file_mend_line (take l.k l.mends)
