-- A compound file whose last sector is cut is filled with zeros.
use Rattle.std.specs.Prelude.{◌≡◌, ◌≢◌, ◌⊎◌, ℕ, ◌-◌, ◌%◌, ◌<◌, List, [], ◌∷◌, ◌++◌, length, take}
use Rattle.doc_bits.specs.Number.{zeros}
use Rattle.cfb_sectors.specs.Header.{sector_len}
use Rattle.cfb_sectors.specs.Opening.{signature}
use Rattle.file_mends.specs.declared.mends.FileMend.{FileMend}
use Rattle.file_mends.specs.declared.mends.FileMend.TheVariants.{LastSectorFilled}

-- [MS-CFB] the file begins as a compound file does, and ends within a sector; with the whole of that sector it has a
-- header and two sectors at least, and no more than a file may have
pub record IsCutFile (file : List ℕ) : Type 0 where
  pub signature_is : take 8 file ≡ signature
  pub cut : length file % sector_len ≢ 0
  pub least : 1024 < length file
  pub most : length file < 7143936

-- the bytes that the last sector lacks
abbrev pub missing_bytes : List ℕ → ℕ
missing_bytes file = sector_len - length file % sector_len

-- a file that is cut has zeros behind it
pub record IsZeroFilled (file : List ℕ) (mends : List FileMend) (filled : List ℕ) : Type 0 where
  pub cut : IsCutFile file
  pub mends_are : mends ≡ LastSectorFilled (missing_bytes file) ∷ []
  pub filled_is : filled ≡ file ++ zeros (missing_bytes file)

-- another one stays
pub record IsWholeAlready (file : List ℕ) (mends : List FileMend) (filled : List ℕ) : Type 0 where
  pub whole : ¬ IsCutFile file
  pub none : mends ≡ []
  pub same : filled ≡ file

abbrev pub FillsSector : List ℕ → List FileMend → List ℕ → Type 0
FillsSector file mends filled = IsZeroFilled file mends filled ⊎ IsWholeAlready file mends filled
