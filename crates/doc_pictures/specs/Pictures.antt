-- The pictures at places of the stream `Data`, in the order in which they are there.
use Rattle.std.specs.Prelude.{◌≡◌, ℕ, ◌<◌, ◌≤◌, true, List, [], ◌∷◌, ⊤, ◌⊎◌}
use Rattle.std.specs.List.{Contains}
use Rattle.inline_pictures.specs.InlinePictures.{IsInlinePicture}
use Rattle.inline_pictures.specs.declared.picture.PictureFile.{PictureFile}
use Rattle.doc_pictures.specs.declared.pictures.Picture.{Picture}
use Rattle.doc_pictures.specs.Names.{is_whole_file}

-- at this place a picture is whose file this is
pub record HasFile (stream : List ℕ) (place : ℕ) (file : PictureFile) : Type 0 where
  pub picture : IsInlinePicture stream place file
  pub whole : is_whole_file file.kind ≡ true

-- a picture of one of the places, at which the one before it has ended
pub record IsPictureOf (stream places : List ℕ) (ended : ℕ) (picture : Picture) : Type 0 where
  pub named : Contains places picture.place
  pub has : HasFile stream picture.place picture.file
  pub behind : ended ≤ picture.place

-- pictures one behind the other, behind one that ended there
abbrev pub ArePicturesInOrder : (stream places : List ℕ) → ℕ → List Picture → Type 0
ArePicturesInOrder stream places ended [] = ⊤
ArePicturesInOrder stream places ended (picture ∷ more) =
    IsPictureOf stream places ended picture × ArePicturesInOrder stream places picture.file.to more

-- the place is that of a picture, or lies in front of its end
pub record IsInPicture (place : ℕ) (picture : Picture) : Type 0 where
  pub begun : picture.place ≤ place
  pub goes_on : place < picture.file.to

-- it is so of one of these
abbrev pub IsCovered : ℕ → List Picture → Type 0
IsCovered place [] = ⊥
IsCovered place (picture ∷ more) = IsInPicture place picture ⊎ IsCovered place more

-- Profile: a picture that begins before the end of another one is none, so that no byte is in two files
pub record ArePictures (stream places : List ℕ) (pictures : List Picture) : Type 0 where
  pub in_order : ArePicturesInOrder stream places 0 pictures
  pub all : (place : ℕ) (file : PictureFile) → Contains places place → HasFile stream place file → IsCovered place pictures
