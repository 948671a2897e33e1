use Rattle.std.proofs.Common.{◌≡◌, ℕ, ◌<◌, ◌≤◌}
use Rattle.char_formats.specs.Flags.{code_at, flag_at, flag_after}
use Rattle.char_formats.proofs.change.lay_flag.Given as goal

-- the changes before are those after the value, the others are as they were
abbrev pub invariant-loop-i : goal.invariant-loop-i
invariant-loop-i l = record {
  done : (k : ℕ) → k < l.i → flag_at l.flags k ≡ flag_after (flag_at l.initial.flags k) (code_at k) l.code.0 l.value;
  rest : (k : ℕ) → l.i ≤ k → flag_at l.flags k ≡ flag_at l.initial.flags k;
}
