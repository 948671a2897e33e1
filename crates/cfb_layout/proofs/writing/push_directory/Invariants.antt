use Rattle.std.proofs.Common.{◌≡◌, ◌++◌}
use Rattle.std.specs.List.{flat_map, range_with_len}
use Rattle.cfb_layout.specs.Entries.{entry_bytes}
use Rattle.cfb_layout.specs.Layout.{directory_entry}
use Rattle.cfb_layout.proofs.writing.push_directory.Given as goal

abbrev pub invariant-loop-k : goal.invariant-loop-k
invariant-loop-k l = l.out ≡ l.fn.out ++ flat_map (λ k. entry_bytes (directory_entry l.streams l.clsid k))
    (range_with_len 0 l.k)
