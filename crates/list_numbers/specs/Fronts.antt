-- A number that is made as far as a label reaches.
use Rattle.std.specs.Prelude.{◌≡◌, ℕ, ◌<◌, ◌≤◌, List, ◌++◌, length}
use Rattle.list_numbers.specs.ParagraphValues.{most_label_units}

-- units are the front of a text, and its end or as many as a label has
pub record BeginsLong (text units : List ℕ) : Type 0 where
  pub rest : List ℕ
  pub whole : text ≡ units ++ rest
  pub long : 0 < length rest → most_label_units ≤ length units
