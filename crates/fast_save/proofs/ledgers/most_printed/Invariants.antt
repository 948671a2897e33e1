use Rattle.std.proofs.Common.{◌≡◌, take}
use Rattle.fast_save.specs.Ledgers.{longest_modifier}
use Rattle.fast_save.proofs.ledgers.most_printed.Given as goal

-- the walk is over the pieces, and this is the longest of those so far
abbrev pub invariant-loop-i : goal.invariant-loop-i
invariant-loop-i l = record {
  walk : l.walk ≡ l.pieces.pieces;
  most : l.most ≡ longest_modifier (take l.i l.pieces.pieces);
}
