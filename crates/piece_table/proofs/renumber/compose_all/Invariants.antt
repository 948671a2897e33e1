use Rattle.std.proofs.Common.{◌≡◌, ◌≢◌, All, length, take, slice_index}
use Rattle.piece_table.specs.Numbering.{Extends}
use Rattle.piece_table.specs.Renumbering.{HaveComposed}
use Rattle.piece_table.proofs.renumber.compose_all.Given as goal

-- the modifiers of the entries before this one are composed
abbrev pub invariant-loop-k : goal.invariant-loop-k
invariant-loop-k l = record {
  extends : Extends l.initial.modifiers.items l.modifiers.items;
  len : length l.numbers.items ≡ length l.initial.modifiers.items;
  composed : HaveComposed l.by l.modifiers.items l.numbers.items;
  done : All (λ entry. slice_index l.numbers.items entry.modifier ≢ 0) (take l.k l.entries);
}
