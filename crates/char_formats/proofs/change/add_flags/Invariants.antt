use Rattle.std.proofs.Common.{◌≡◌, ℕ, ◌<◌, ◌≤◌}
use Rattle.char_formats.specs.Flags.{flag_at, flag_then}
use Rattle.char_formats.proofs.change.add_flags.Given as goal

-- the changes before are put behind those of before, the others are as they were
abbrev pub invariant-loop-i : goal.invariant-loop-i
invariant-loop-i l = record {
  done : (k : ℕ) → k < l.i → flag_at l.flags k ≡ flag_then (flag_at l.initial.flags k) (flag_at l.next k);
  rest : (k : ℕ) → l.i ≤ k → flag_at l.flags k ≡ flag_at l.initial.flags k;
}
