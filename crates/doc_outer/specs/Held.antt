-- What names hold, where that is known: the meaning of a shelf, and what a read and a put say of it.
use Rattle.std.specs.Prelude.{◌≡◌, ◌≢◌, ℕ, ◌<◌, ◌≤◌, List, length, take, drop, Option, Some, None, option_map, ⊤}
use Rattle.std.specs.Ordering.{nat_cmp}
use Rattle.std.specs.Cmp.Lexicographic.{slice_cmp}
use Rattle.std.specs.FinMap as map

-- the files by their names, names and contents as bytes
abbrev pub Files : Type 0
Files = map.FinMap (slice_cmp nat_cmp) (List ℕ)

-- no file
abbrev pub no_files : Files
no_files = map.empty

-- the bytes that the name holds, where it is there
abbrev pub file_at : Files → List ℕ → Option (List ℕ)
file_at files name = map.get files name

-- the same files, but that the name holds these bytes
abbrev pub with_file : Files → List ℕ → List ℕ → Files
with_file files name bytes = map.insert files name bytes

-- what names hold after the bytes were put under the name, where that is known
abbrev pub held_with : Option Files → (name bytes : List ℕ) → Option Files
held_with held name bytes = option_map (λ files. with_file files name bytes) held

-- the name holds what it held, where that is known; whether it is known stays
abbrev pub StaysAt : List ℕ → Option Files → Option Files → Type 0
StaysAt name None None = ⊤
StaysAt name (Some before) (Some now) = file_at now name ≡ file_at before name
StaysAt name None (Some now) = ⊥
StaysAt name (Some before) None = ⊥

-- every other name holds what it held
abbrev pub OthersStay : List ℕ → Option Files → Option Files → Type 0
OthersStay name before now = (other : List ℕ) → other ≢ name → StaysAt other before now

-- a fact on what the name holds, wherever the files are known
abbrev pub Told : Option Files → List ℕ → (Option (List ℕ) → Type 0) → Type 0
Told None name fact = ⊤
Told (Some files) name fact = fact (file_at files name)

-- the name is not there
abbrev pub IsAbsent : Option (List ℕ) → Type 0
IsAbsent there = there ≡ None

-- the name holds exactly these bytes
abbrev pub HoldsExactly : List ℕ → Option (List ℕ) → Type 0
HoldsExactly bytes there = there ≡ Some bytes

-- the name holds more bytes than these many
abbrev pub IsLonger : ℕ → Option (List ℕ) → Type 0
IsLonger count None = ⊥
IsLonger count (Some all) = count < length all

-- the first bytes of the buffer are those that are from a place on; none of them only at the end
pub record IsFilePart (at count : ℕ) (buffer all : List ℕ) : Type 0 where
  pub bytes : take count buffer ≡ take count (drop at all)
  pub within : count ≤ length (drop at all)
  pub end : count ≡ 0 → 0 < length buffer → length all ≤ at

-- the name is there, and this is a part of what it holds
abbrev pub ReadsPart : ℕ → ℕ → List ℕ → Option (List ℕ) → Type 0
ReadsPart at count buffer None = ⊥
ReadsPart at count buffer (Some all) = IsFilePart at count buffer all
