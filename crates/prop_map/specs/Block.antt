-- The entries of a map in one block of bytes: of each entry the code, the length of the value, and the value.
use Rattle.std.specs.Prelude.{◌≡◌, ℕ, zero, suc, ◌+◌, ◌<◌, ◌^◌, List, [], ◌∷◌, ◌++◌, length, drop, slice_range, IsTrue}
use Rattle.std.specs.List.{All, flat_map}
use Rattle.std.specs.Ordering.{nat_cmp}
use Rattle.std.specs.FinMap.{is_sorted, put, from_sorted}
use Rattle.doc_bits.specs.Number.{number_bytes, u16_at, u32_at}
use Rattle.sprm_table.specs.Sprm.{spelling}
use Rattle.prop_map.specs.Settings.{Properties}
use Rattle.prop_map.specs.Entries.{Entries}

-- the bytes of an entry
abbrev pub block_entry_bytes : ℕ × List ℕ → List ℕ
block_entry_bytes entry = number_bytes 2 entry.0 ++ (number_bytes 4 (length entry.1) ++ entry.1)

-- the bytes of entries, one after the other
abbrev pub block_bytes : Entries → List ℕ
block_bytes entries = flat_map block_entry_bytes entries

-- a code of 16 bits, and a value whose length has 32
pub record IsBlockEntry (entry : ℕ × List ℕ) : Type 0 where
  pub code : entry.0 < 65536
  pub len : length entry.1 < 2 ^ 32

abbrev pub AreBlockEntries : Entries → Type 0
AreBlockEntries entries = All IsBlockEntry entries

-- where the first entry of a block ends
abbrev pub first_end : List ℕ → ℕ
first_end block = 6 + u32_at block 2

-- the first entry
abbrev pub first_entry : List ℕ → ℕ × List ℕ
first_entry block = (u16_at block 0, slice_range block 6 (first_end block))

-- the first entries of a block, at most so many
unfoldable pub entries_upto : ℕ → List ℕ → Entries
entries_upto zero block = []
entries_upto (suc n) [] = []
entries_upto (suc n) (byte ∷ bytes) = first_entry (byte ∷ bytes) ∷ entries_upto n (drop (first_end (byte ∷ bytes))
    (byte ∷ bytes))

-- the entries of a block: none has less than a byte
abbrev pub entries_in : List ℕ → Entries
entries_in block = entries_upto (length block) block

-- the bytes are those of their entries
pub record IsPropertyBlock (block : List ℕ) : Type 0 where
  pub entries : AreBlockEntries (entries_in block)
  pub is : block ≡ block_bytes (entries_in block)

-- and the codes ascend
pub record IsSortedBlock (block : List ℕ) : Type 0 where
  pub block_is : IsPropertyBlock block
  pub sorted : IsTrue (is_sorted nat_cmp (entries_in block))

-- the map of the entries of a block
abbrev pub map_of : List ℕ → Properties
map_of block = from_sorted (entries_in block)

-- the codes ascend, each below this one
pub record HasCodesBelow (block : List ℕ) (least : ℕ) : Type 0 where
  pub ascending : IsSortedBlock block
  pub below : All (λ entry. entry.0 < least) (entries_in block)

-- how many bytes the entries of a block have as a list of sprms
abbrev pub list_length : List ℕ → ℕ
list_length block = length (flat_map spelling (entries_in block))

-- a block with its length as a list of sprms
pub record IsCountedBlock (block : List ℕ) (len : ℕ) : Type 0 where
  pub sorted_is : IsSortedBlock block
  pub len_is : len ≡ list_length block

-- the bytes of some entries were appended, and between these and the rest the code has its place
pub record IsPutBetween (entries : Entries) (code : ℕ) (old new : List ℕ) (rest : Entries) : Type 0 where
  pub below : Entries
  pub bytes : new ≡ old ++ block_bytes below
  pub formed : AreBlockEntries below
  pub between : (value : List ℕ) → put nat_cmp code value entries ≡ below ++ (code, value) ∷ rest
