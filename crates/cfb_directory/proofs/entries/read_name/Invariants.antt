use Rattle.std.proofs.Common.{◌≡◌, ℕ, ◌<◌, length, slice_index}
use Rattle.cfb_directory.specs.Directory.{entry_unit}
use Rattle.cfb_directory.proofs.entries.read_name.Given as goal

abbrev pub invariant-loop-i : goal.invariant-loop-i
invariant-loop-i l = record {
  len : length l.name.items ≡ l.i;
  units : (k : ℕ) → k < l.i → slice_index l.name.items k ≡ entry_unit l.file l.at k;
}
