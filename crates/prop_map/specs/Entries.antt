-- Lists of entries in ascending order of their codes, on which a map is.
use Rattle.std.specs.Prelude.{ℕ, List}

abbrev pub Entries : Type 0
Entries = List (ℕ × List ℕ)
