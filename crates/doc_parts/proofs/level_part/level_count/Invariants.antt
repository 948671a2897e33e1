use Rattle.std.proofs.Common.{◌≡◌, ◌*◌, ◌≤◌}
use Rattle.doc_bits.specs.Number.{u16_at}
use Rattle.doc_parts.specs.Levels.{levels_before}
use Rattle.doc_parts.proofs.level_part.level_count.Given as goal

-- the levels of the lists so far, at most nine a list
abbrev pub invariant-loop-k : goal.invariant-loop-k
invariant-loop-k l = record {
  count : l.count ≡ levels_before l.part l.k;
  few : l.count ≤ 9 * l.k;
  lists : l.k-end ≡ u16_at l.part 0;
}
