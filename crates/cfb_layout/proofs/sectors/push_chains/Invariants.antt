use Rattle.std.proofs.Common.{◌≡◌, ◌++◌, take}
use Rattle.std.specs.List.{flat_map}
use Rattle.doc_bits.specs.Number.{number_bytes}
use Rattle.cfb_layout.specs.Sectors.{chains_from, chain_start}
use Rattle.cfb_layout.proofs.sectors.push_chains.Given as goal

abbrev pub invariant-loop-count : goal.invariant-loop-count
invariant-loop-count l = record {
  bytes : l.out ≡ l.fn.out ++ flat_map (number_bytes 4) (chains_from 0 (take l.count-index l.counts));
  here : l.start ≡ chain_start l.counts l.count-index;
}
