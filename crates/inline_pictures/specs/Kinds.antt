-- [MS-ODRAW] OfficeArtBlip: the kinds of pictures, by the types of their records.
use Rattle.std.specs.Prelude.{ℕ, Bool, ◌==◌, ◌||◌, Option, Some, None, if◌then◌else◌}
use Rattle.inline_pictures.specs.declared.kind.PictureKind.{PictureKind}
use Rattle.inline_pictures.specs.declared.kind.PictureKind.TheVariants.{Png, Jpeg, Tiff, Emf, Wmf}
use Rattle.inline_pictures.specs.declared.kind.PictureKind.TheVariants.{CompressedEmf, CompressedWmf}

-- OfficeArtBlipEMF, OfficeArtBlipWMF
abbrev pub is_metafile : ℕ → Bool
is_metafile rec_type = rec_type == 0xF01A || rec_type == 0xF01B

-- a metafile is compressed unless its header says 0xFE
-- Profile: OfficeArtBlipPICT and OfficeArtBlipDIB have no file of their own.
abbrev pub picture_kind : ℕ → ℕ → Option PictureKind
picture_kind rec_type compression =
    if rec_type == 0xF01E then Some Png else
    if rec_type == 0xF01D || rec_type == 0xF02A then Some Jpeg else
    if rec_type == 0xF029 then Some Tiff else
    if rec_type == 0xF01A then Some (if compression == 0xFE then Emf else CompressedEmf) else
    if rec_type == 0xF01B then Some (if compression == 0xFE then Wmf else CompressedWmf) else None
