-- Numbers in bytes, the lowest byte first.
use Rattle.std.specs.Prelude.{◌≡◌, ℕ, zero, suc, ◌+◌, ◌*◌, ◌^◌, ◌<◌, ◌≤◌, List, ◌++◌, length, replicate, slice_index}
use Rattle.std.specs.List.{flat_map}
use Rattle.std.specs.Int.{bytes_low_first}

-- the number that `width` bytes spell from a place on: the sum of each byte times its power of 256
unfoldable pub number_at : List ℕ → ℕ → ℕ → ℕ
number_at bytes at zero = 0
number_at bytes at (suc k) = number_at bytes at k + slice_index bytes (at + k) * 256 ^ k

-- the 16-bit number at a place
abbrev pub u16_at : List ℕ → ℕ → ℕ
u16_at bytes at = number_at bytes at 2

-- the 32-bit number at a place
abbrev pub u32_at : List ℕ → ℕ → ℕ
u32_at bytes at = number_at bytes at 4

-- that many bytes are at the place
abbrev pub HasBytes : List ℕ → ℕ → ℕ → Type 0
HasBytes bytes at width = at + width ≤ length bytes

-- the lowest `width` bytes of a number, the lowest first
unfoldable pub number_bytes : ℕ → ℕ → List ℕ
number_bytes width x = bytes_low_first 0 width x

-- the bytes of 32-bit numbers, one after the other
abbrev pub u32_list_bytes : List ℕ → List ℕ
u32_list_bytes xs = flat_map (number_bytes 4) xs

-- zero bytes
unfoldable pub zeros : ℕ → List ℕ
zeros n = replicate n 0

-- all numbers of the list are below 256
abbrev pub AreBytes : List ℕ → Type 0
AreBytes bytes = (i : ℕ) → slice_index bytes i < 256

-- the bytes of a number spell it, whatever is before and after them
abbrev pub NumberIsReadBack : Type 0
NumberIsReadBack =
    (width x : ℕ) (before after : List ℕ) → x < 256 ^ width → number_at (before ++ (number_bytes width x ++ after))
    (length before) width ≡ x
