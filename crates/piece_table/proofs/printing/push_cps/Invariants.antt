use Rattle.std.proofs.Common.{◌≡◌, ◌++◌, map, flat_map, take}
use Rattle.std.specs.List.{range_with_len, sum}
use Rattle.doc_bits.specs.Number.{number_bytes}
use Rattle.piece_table.specs.PrintSteps.{lens_of}
use Rattle.piece_table.proofs.printing.push_cps.Given as goal

-- the CPs before this one are there, and this one is known
abbrev pub invariant-loop-k : goal.invariant-loop-k
invariant-loop-k l =
    (l.bytes ≡ l.initial.bytes ++ flat_map (number_bytes 4) (map (λ k. sum (take k (lens_of l.entries)))
    (range_with_len 0 l.k)))
    × (l.cp ≡ sum (take l.k (lens_of l.entries)))
