-- Parts of the table stream as they are written, each with the number of its pair in the FIB.
use Rattle.std.specs.Prelude.{◌≡◌, ℕ, ◌+◌, ◌≤◌, List, [], length, slice_range}

-- the number of the pair, the bytes that it counts, and bytes right behind them that it does not count
pub record TableEntry : Type 0 where
  pub number : ℕ
  pub bytes : List ℕ
  pub behind : List ℕ

-- a part with nothing behind
abbrev pub entry : ℕ → List ℕ → TableEntry
entry number bytes = record { number = number; bytes = bytes; behind = [] }

-- the pair, fc and lcb, names the bytes of the part, and right after them are the others
pub record IsPartAt (table : List ℕ) (pair : ℕ × ℕ) (part : TableEntry) : Type 0 where
  pub len : pair.1 ≡ length part.bytes
  pub bytes : slice_range table pair.0 (pair.0 + pair.1) ≡ part.bytes
  pub within : pair.0 + pair.1 + length part.behind ≤ length table
  pub behind : slice_range table (pair.0 + pair.1) (pair.0 + pair.1 + length part.behind) ≡ part.behind
