use Rattle.std.proofs.Common.{◌≡◌, ◌++◌, map, flat_map, take, slice_index}
use Rattle.piece_table.specs.Printing.{pcd_bytes}
use Rattle.piece_table.proofs.printing.push_pcds.Given as goal

-- the Pcds before this one are there
abbrev pub invariant-loop-k : goal.invariant-loop-k
invariant-loop-k l =
    l.bytes ≡ l.initial.bytes ++ flat_map (λ pcd. pcd) (map (λ entry. pcd_bytes entry.piece (slice_index l.prms
    entry.modifier)) (take l.k l.entries))
