-- The names of picture files.
use Rattle.std.specs.Prelude.{ℕ, Bool, true, false, List, ◌++◌, codes}
use Rattle.std.specs.Fmt.{decimal}
use Rattle.inline_pictures.specs.declared.kind.PictureKind.{PictureKind}
use Rattle.inline_pictures.specs.declared.kind.PictureKind.TheVariants.{Png, Jpeg, Tiff, Emf, Wmf}
use Rattle.inline_pictures.specs.declared.kind.PictureKind.TheVariants.{CompressedEmf, CompressedWmf}

-- Profile: the bytes of a compressed metafile are no file by themselves
abbrev pub is_whole_file : PictureKind → Bool
is_whole_file Png = true
is_whole_file Jpeg = true
is_whole_file Tiff = true
is_whole_file Emf = true
is_whole_file Wmf = true
is_whole_file CompressedEmf = false
is_whole_file CompressedWmf = false

abbrev pub suffix_of : PictureKind → List ℕ
suffix_of Png = codes "png"
suffix_of Jpeg = codes "jpg"
suffix_of Tiff = codes "tif"
suffix_of Emf = codes "emf"
suffix_of Wmf = codes "wmf"
suffix_of CompressedEmf = codes "emf"
suffix_of CompressedWmf = codes "wmf"

-- the name of the picture with this number, from 1
abbrev pub picture_name : ℕ → PictureKind → List ℕ
picture_name number kind = codes "picture-" ++ (decimal number ++ (codes "." ++ suffix_of kind))

-- its path in a folder
abbrev pub picture_path : List ℕ → ℕ → PictureKind → List ℕ
picture_path folder number kind = folder ++ (codes "/" ++ picture_name number kind)
