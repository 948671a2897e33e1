-- The CPs that cut a story into its texts, as rules 53 and 54 check them.
use Rattle.std.specs.Prelude.{◌⊎◌, ℕ, List}
use Rattle.doc_parts.specs.Table.{plc_part, IsMalformedPart, HasWrongEntry}
use Rattle.doc_parts.specs.Stories.{cut_form, cut_cps}

-- a table of CPs has not the length that it has to have, or a CP of it is out of order or beyond the story
abbrev pub BreaksCuts : Type 0 → List ℕ → ℕ → ℕ → ℕ → Type 0
BreaksCuts formed bytes story_len at place =
    IsMalformedPart formed at place ⊎ HasWrongEntry cut_form (cut_cps story_len) (plc_part 0 bytes) at place
