use Rattle.std.proofs.Common.{◌≡◌, ◌<◌, ◌≤◌, ◌-◌, ℕ, false, length}
use Rattle.std.specs.Prelude.{slice_index}
use Rattle.text_codes.specs.Paragraph.{is_paragraph_end}
use Rattle.text_codes.proofs.paragraph.above_len.Given as goal

-- none of the units so far ends a paragraph
abbrev pub invariant-loop-done : goal.invariant-loop-done
invariant-loop-done l = record {
  within : l.done ≤ length l.units;
  bare : (k : ℕ) → k < l.done → is_paragraph_end (slice_index l.units k) false ≡ false;
}

abbrev pub decreases-loop-done : goal.decreases-loop-done
decreases-loop-done l = length l.units - l.done
