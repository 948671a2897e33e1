use Rattle.std.specs.Prelude.{◌≡◌, ◌+◌, take, sum_by}
use Rattle.full_save.specs.Lengths.{bookmark_name_length}
use Rattle.full_save.proofs.lengths.names_len.Given as goal

abbrev pub invariant-loop-i : goal.invariant-loop-i
invariant-loop-i l = l.len ≡ 6 + sum_by bookmark_name_length (take l.i l.bookmarks)
