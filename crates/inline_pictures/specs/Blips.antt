-- [MS-ODRAW] OfficeArtBlip and OfficeArtFBSE: where the file of a picture is.
use Rattle.std.specs.Prelude.{◌≡◌, ℕ, ◌+◌, ◌-◌, ◌*◌, ◌%◌, ◌<◌, List, ◌⊎◌, Some, slice_index, if◌then◌else◌}
use Rattle.inline_pictures.specs.Records.{record_instance, record_type, record_end, IsRecordAt}
use Rattle.inline_pictures.specs.Kinds.{is_metafile, picture_kind}
use Rattle.inline_pictures.specs.declared.picture.PictureFile.{PictureFile}

-- behind the header: rgbUid1, rgbUid2 where recInstance is odd, and the tag or the OfficeArtMetafileHeader
abbrev pub file_from : List ℕ → ℕ → ℕ
file_from stream at =
    at + 8 + 16 * (1 + record_instance stream at % 2) + (if is_metafile (record_type stream at) then 34 else 1)

-- a blip with a file: all that is left of it. The compression of a metafile is the last but one byte in front of it
pub record IsBlip (stream : List ℕ) (at limit : ℕ) (file : PictureFile) : Type 0 where
  pub blip : IsRecordAt stream at limit
  pub kind : picture_kind (record_type stream at) (slice_index stream (file_from stream at - 2)) ≡ Some file.kind
  pub from : file.from ≡ file_from stream at
  pub to : file.to ≡ record_end stream at
  pub some : file.from < file.to

-- an OfficeArtFBSE has 36 bytes behind its header, cbName at 33 of them, then the name
abbrev pub embedded_at : List ℕ → ℕ → ℕ
embedded_at stream at = at + 44 + slice_index stream (at + 41)

-- the file of the blip that is embedded in an OfficeArtFBSE
pub record IsEmbedded (stream : List ℕ) (at limit : ℕ) (file : PictureFile) : Type 0 where
  pub block : IsRecordAt stream at limit
  pub fbse : record_type stream at ≡ 0xF007
  pub blip : IsBlip stream (embedded_at stream at) (record_end stream at) file

-- the file of a block that is a blip itself
pub record IsBare (stream : List ℕ) (at limit : ℕ) (file : PictureFile) : Type 0 where
  pub bare : ¬ (record_type stream at ≡ 0xF007)
  pub blip : IsBlip stream at limit file

-- OfficeArtBStoreContainerFileBlock
abbrev pub IsFileBlock : List ℕ → ℕ → ℕ → PictureFile → Type 0
IsFileBlock stream at limit file = IsEmbedded stream at limit file ⊎ IsBare stream at limit file
