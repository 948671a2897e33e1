use Rattle.std.proofs.Common.{◌≡◌, take}
use Rattle.piece_table.specs.Renewals.{moved_entries}
use Rattle.piece_table.proofs.renewal.moved.Given as goal

-- the entries before this one are at their new places
abbrev pub invariant-loop-k : goal.invariant-loop-k
invariant-loop-k l = l.new.items ≡ moved_entries (take l.k l.places) (take l.k l.entries)
