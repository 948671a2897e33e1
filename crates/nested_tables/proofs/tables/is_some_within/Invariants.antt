use Rattle.std.proofs.Common.{◌≡◌, take, false}
use Rattle.std.specs.List.{list_any}
use Rattle.nested_tables.specs.Tables.{reaches_depth}
use Rattle.nested_tables.proofs.tables.is_some_within.Given as goal

-- none so far is so deep
abbrev pub invariant-loop-one : goal.invariant-loop-one
invariant-loop-one l = list_any (reaches_depth l.depth) (take l.one-index l.paragraphs) ≡ false
