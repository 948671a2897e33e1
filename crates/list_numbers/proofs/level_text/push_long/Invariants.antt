use Rattle.std.proofs.Common.{◌≡◌, ◌≤◌, ◌-◌, ◌++◌, ◌∷◌, [], ℕ, List, length, take}
use Rattle.std.specs.List.{flat_map}
use Rattle.doc_parts.specs.Tabulated.{tabulate}
use Rattle.list_numbers.proofs.level_text.push_long.Given as goal

-- what the units so far represent is appended
abbrev pub invariant-loop-done : goal.invariant-loop-done
invariant-loop-done l = record {
  within : l.done ≤ length l.text;
  units : (represented : ℕ → List ℕ) → l.numbers ≡ tabulate represented 9 →
      ((unit : ℕ) → 9 ≤ unit → represented unit ≡ unit ∷ []) →
      l.units ≡ l.fn.units ++ flat_map represented (take l.done l.text);
}

abbrev pub decreases-loop-done : goal.decreases-loop-done
decreases-loop-done l = length l.text - l.done
