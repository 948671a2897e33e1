use Rattle.std.proofs.Common.{◌≡◌, ◌≢◌, All, length, take, slice_index}
use Rattle.piece_table.specs.Renumbering.{HaveCopied}
use Rattle.piece_table.proofs.renumber.copy_all.Given as goal

-- the modifiers of the entries before this one are copied
abbrev pub invariant-loop-k : goal.invariant-loop-k
invariant-loop-k l = record {
  len : length l.copies.numbers.items ≡ length l.modifiers;
  copied : HaveCopied l.modifiers l.copies.modifiers.items l.copies.numbers.items;
  done : All (λ entry. entry.modifier ≢ 0 → slice_index l.copies.numbers.items entry.modifier ≢ 0) (take l.k l.entries);
}
