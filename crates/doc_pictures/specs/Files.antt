-- The files of pictures, by the places that characters name.
use Rattle.std.specs.Prelude.{ℕ, ◌+◌, ◌==◌, List, [], ◌∷◌, Option, None, Some, if◌then◌else◌}
use Rattle.doc_pictures.specs.declared.files.Images.{Images}
use Rattle.doc_pictures.specs.declared.names.PictureName.{PictureName}
use Rattle.doc_pictures.specs.declared.pictures.Picture.{Picture}

-- a folder, and the pictures whose files are in it
pub record ImageFiles : Type 0 where
  pub folder : List ℕ
  pub pictures : List Picture

abbrev pub image_files : Images → ImageFiles
image_files images = record { folder = images.folder.now; pictures = images.pictures.now }

-- no file
abbrev pub no_image_files : ImageFiles
no_image_files = record { folder = []; pictures = [] }

-- the name of the file of the picture at a place, of pictures of which the first one has this number
abbrev pub name_from : ℕ → List Picture → ℕ → Option PictureName
name_from number [] place = None
name_from number (picture ∷ more) place =
    if picture.place == place then Some (record { number = number; kind = picture.file.kind }) else
    name_from (number + 1) more place

-- a character that names no place has none
abbrev pub picture_name_at : List Picture → Option ℕ → Option PictureName
picture_name_at pictures None = None
picture_name_at pictures (Some place) = name_from 1 pictures place
