use Rattle.std.proofs.Common.{◌≡◌, map, vec_capacity}
use Rattle.chunked_list.specs.Blocks.{map_range}
use Rattle.chunked_list.proofs.block.change_all.Given as goal

-- the range so far is exchanged
abbrev pub invariant-loop-i : goal.invariant-loop-i
invariant-loop-i g l = record {
  items : l.items.items ≡ map_range (g.C.Mapping.image l.by) l.initial.items.items l.first l.i;
  units : map g.T.Measured.units l.items.items ≡ map g.T.Measured.units l.initial.items.items;
  room : vec_capacity l.items ≡ vec_capacity l.initial.items;
}
