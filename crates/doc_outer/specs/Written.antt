-- What a byte sink has taken, where that is known.
use Rattle.std.specs.Prelude.{◌≡◌, ℕ, ◌≤◌, List, ◌++◌, length, take, drop, Option, Some, None, ⊤}

-- the new bytes are the old ones and then these; whether they are known stays
abbrev pub Appends : Option (List ℕ) → Option (List ℕ) → List ℕ → Type 0
Appends None None more = ⊤
Appends (Some old) (Some new) more = new ≡ old ++ more
Appends None (Some new) more = ⊥
Appends (Some old) None more = ⊥

-- a prefix of these bytes was appended
pub record AppendsPrefix (old new : Option (List ℕ)) (all : List ℕ) : Type 0 where
  pub count : ℕ
  pub within : count ≤ length all
  pub appended : Appends old new (take count all)

-- bytes were put behind those that wait in a block: the sink has taken the front of both, and the rest waits
pub record Sends (old new : Option (List ℕ)) (block bytes left : List ℕ) : Type 0 where
  pub count : ℕ
  pub within : count ≤ length (block ++ bytes)
  pub sent : Appends old new (take count (block ++ bytes))
  pub waits : left ≡ drop count (block ++ bytes)
