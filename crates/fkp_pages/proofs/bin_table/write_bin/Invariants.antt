use Rattle.std.proofs.Common.{◌≡◌, ◌++◌, ◌∷◌, [], map, take}
use Rattle.std.specs.List.{flat_map}
use Rattle.doc_bits.specs.Number.{number_bytes}
use Rattle.fkp_pages.proofs.bin_table.write_bin.Given as goal

-- the fcs so far
abbrev pub invariant-loop-bin : goal.invariant-loop-bin
invariant-loop-bin l = l.bytes ≡ flat_map (number_bytes 4) (map (λ bin. bin.first) (take l.bin-index l.bins))

-- all fcs, and the pages so far
abbrev pub invariant-loop-bin-2 : goal.invariant-loop-bin-2
invariant-loop-bin-2 l =
    l.bytes ≡ flat_map (number_bytes 4) (map (λ bin. bin.first) l.bins ++ l.end ∷ [])
    ++ flat_map (number_bytes 4) (map (λ bin. bin.page) (take l.bin-index l.bins))
