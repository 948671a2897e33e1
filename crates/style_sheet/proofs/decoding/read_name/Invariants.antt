use Rattle.std.proofs.Common.{◌≡◌, ℕ, ◌+◌, ◌*◌, ◌<◌, length, slice_index}
use Rattle.doc_bits.specs.Number.{u16_at}
use Rattle.style_sheet.proofs.decoding.read_name.Given as goal

-- the units so far
abbrev pub invariant-loop-i : goal.invariant-loop-i
invariant-loop-i l = record {
  count : length l.name ≡ l.i;
  each : (k : ℕ) → k < l.i → slice_index l.name k ≡ u16_at l.std (l.base + 2 + 2 * k);
}
