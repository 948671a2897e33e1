-- Rooms that a caller lends.
use Rattle.std.specs.Prelude.{ℕ, List, length, take, drop, ◌++◌}

-- what a room has once bytes were handed to it: those that it has room for, and behind them what was there
abbrev pub handed : (bytes room : List ℕ) → List ℕ
handed bytes room = take (length room) bytes ++ drop (length bytes) room
