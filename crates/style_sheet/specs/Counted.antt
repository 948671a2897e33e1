-- [MS-DOC] LPStd, LPUpx: a 16-bit count and that many bytes. They follow each other, each at an even offset of what
-- they
-- are in.
use Rattle.std.specs.Prelude.{ℕ, zero, suc, ◌+◌, ◌%◌, ◌≤◌, ◌==◌, if◌then◌else◌, List, [], ◌∷◌, ◌++◌, length}
use Rattle.std.specs.Prelude.{slice_range}
use Rattle.doc_bits.specs.Number.{u16_at, number_bytes}

abbrev pub even_up : ℕ → ℕ
even_up offset = offset + offset % 2

-- where the bytes of one end
abbrev pub counted_end : List ℕ → ℕ → ℕ
counted_end bytes at = at + 2 + u16_at bytes at

-- where one is, the first from an offset on
abbrev pub counted_place : List ℕ → ℕ → ℕ → ℕ
counted_place bytes start zero = even_up start
counted_place bytes start (suc k) = even_up (counted_end bytes (counted_place bytes start k))

-- its bytes
abbrev pub counted_bytes : List ℕ → ℕ → List ℕ
counted_bytes bytes at = slice_range bytes (at + 2) (counted_end bytes at)

-- it is within what it is in
abbrev pub IsCountedPart : List ℕ → ℕ → Type 0
IsCountedPart bytes at = counted_end bytes at ≤ length bytes

-- Profile: written, each is padded with a zero to an even offset
abbrev pub written_counted : List ℕ → List ℕ
written_counted bytes = number_bytes 2 (length bytes) ++ (bytes ++ (if length bytes % 2 == 0 then [] else 0 ∷ []))
