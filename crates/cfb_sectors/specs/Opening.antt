-- The rules that are checked before the header is read: the length of the file, and its signature.
use Rattle.std.specs.Prelude.{◌≡◌, ◌≢◌, ◌⊎◌, ℕ, ◌%◌, ◌<◌, ◌≤◌, min, List, [], ◌∷◌, length, take}
use Rattle.doc_bits.specs.Rules.{Rules, rule, ◌then◌}
use Rattle.cfb_sectors.specs.Header.{sector_len}

-- a header and two sectors at least, whole sectors, and the 13,952 sectors that 109 FAT sectors can name at most
abbrev pub IsWrongFileLength : ℕ → Type 0
IsWrongFileLength len = (len % sector_len ≢ 0) ⊎ ((len < 1536) ⊎ (7143936 < len))

-- the first eight bytes of a compound file
abbrev pub signature : List ℕ
signature = 0xD0 ∷ (0xCF ∷ (0x11 ∷ (0xE0 ∷ (0xA1 ∷ (0xB1 ∷ (0x1A ∷ (0xE1 ∷ [])))))))

-- rule 1, at the length or at 7,143,937 where that is less
pub record BreaksLength (file : List ℕ) (place : ℕ) : Type 0 where
  pub here : place ≡ min (length file) 7143937
  pub wrong : IsWrongFileLength (length file)

-- rule 2, at the first byte
pub record BreaksSignature (file : List ℕ) (place : ℕ) : Type 0 where
  pub here : place ≡ 0
  pub wrong : take 8 file ≢ signature

abbrev pub opening_rules : List ℕ → Rules ℕ
opening_rules file = rule 1 (BreaksLength file) then rule 2 (BreaksSignature file)

-- a file whose length is right
pub record HasRightLength (file : List ℕ) : Type 0 where
  pub sectors : length file % sector_len ≡ 0
  pub least : 1536 ≤ length file
  pub most : length file ≤ 7143936
