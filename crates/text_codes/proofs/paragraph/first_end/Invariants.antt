use Rattle.std.proofs.Common.{◌≡◌, ◌<◌, ◌≤◌, ℕ, false}
use Rattle.std.specs.Prelude.{slice_index}
use Rattle.text_codes.specs.Paragraph.{is_paragraph_end}
use Rattle.text_codes.proofs.paragraph.first_end.Given as goal

-- none of the units so far ends a paragraph
abbrev pub invariant-loop-k : goal.invariant-loop-k
invariant-loop-k l = (i : ℕ) → l.from ≤ i → i < l.k → is_paragraph_end (slice_index l.units i) false ≡ false
