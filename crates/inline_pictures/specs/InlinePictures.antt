-- [MS-DOC] sprmCPicLocation: the picture whose PICF is at an offset of the stream `Data`.
use Rattle.std.specs.Prelude.{◌≡◌, ℕ, List}
use Rattle.inline_pictures.specs.Records.{record_type, record_end, IsRecordAt}
use Rattle.inline_pictures.specs.Picf.{IsPicfAt, picf_end, art_at}
use Rattle.inline_pictures.specs.Blips.{IsFileBlock}
use Rattle.inline_pictures.specs.declared.picture.PictureFile.{PictureFile}

-- [MS-ODRAW] OfficeArtInlineSpContainer: an OfficeArtSpContainer, and behind it the blocks
-- Profile: the picture is that of the first block.
pub record IsInlinePicture (stream : List ℕ) (offset : ℕ) (file : PictureFile) : Type 0 where
  pub picf : IsPicfAt stream offset
  pub shape : IsRecordAt stream (art_at stream offset) (picf_end stream offset)
  pub container : record_type stream (art_at stream offset) ≡ 0xF004
  pub block : IsFileBlock stream (record_end stream (art_at stream offset)) (picf_end stream offset) file

-- there is at most one picture at an offset
abbrev pub InlinePictureIsOne : Type 0
InlinePictureIsOne =
    (stream : List ℕ) (offset : ℕ) (one other : PictureFile) → IsInlinePicture stream offset one
    → IsInlinePicture stream offset other → one ≡ other
