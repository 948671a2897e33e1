-- Bytes of a stream that are put at their places in the file.
use Rattle.std.specs.Prelude.{ℕ, suc, ◌+◌, ◌*◌, ◌/◌, ◌%◌, List, [], ◌∷◌, Option, Some, None, option_map, slice_get, slice_set}
use Rattle.cfb_sectors.specs.Header.{sector_len}

-- where byte x of a stream with these sectors is in the file, where it has a sector
abbrev pub place_of_byte : List ℕ → ℕ → Option ℕ
place_of_byte sectors x =
    option_map (λ sector. (sector + 1) * sector_len + x % sector_len) (slice_get sectors (x / sector_len))

-- the file with a byte there; none changes without a place, or behind the file
abbrev pub with_byte : List ℕ → Option ℕ → ℕ → List ℕ
with_byte file None byte = file
with_byte file (Some place) byte = slice_set file place byte

-- the file with these bytes of the stream from byte x on; all others stay
abbrev pub rewritten : List ℕ → ℕ → List ℕ → List ℕ → List ℕ
rewritten sectors x [] file = file
rewritten sectors x (byte ∷ bytes) file =
    rewritten sectors (suc x) bytes (with_byte file (place_of_byte sectors x) byte)
