-- What the definitions imply.
use Rattle.std.specs.Prelude.{◌≡◌, ℕ, ◌+◌, ◌-◌, ◌≤◌, List, [], ◌∷◌, length}
use Rattle.doc_pictures.specs.declared.pictures.Picture.{Picture}
use Rattle.doc_pictures.specs.Pictures.{ArePictures}

-- places of a stream have one list of pictures
abbrev pub PicturesAreOne : Type 0
PicturesAreOne =
    (stream places : List ℕ) (one other : List Picture) → ArePictures stream places one → ArePictures stream places other →
    one ≡ other

-- the bytes of all files
unfoldable pub byte_count : List Picture → ℕ
byte_count [] = 0
byte_count (picture ∷ more) = picture.file.to - picture.file.from + byte_count more

-- they are no more than the stream has
abbrev pub PicturesAreShort : Type 0
PicturesAreShort =
    (stream places : List ℕ) (pictures : List Picture) → ArePictures stream places pictures →
    byte_count pictures ≤ length stream
