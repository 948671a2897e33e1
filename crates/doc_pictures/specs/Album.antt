-- Picture files in a folder.
use Rattle.std.specs.Prelude.{◌≡◌, ℕ, ◌+◌, ◌≤◌, Bool, true, false, List, [], ◌∷◌, length, take, Option, None, Some, ⊤}
use Rattle.std.specs.Prelude.{slice_get, slice_range}
use Rattle.std.specs.List.{All}
use Rattle.doc_outer.specs.Held.{Files, IsAbsent, OthersStay, Told, held_with}
use Rattle.doc_pictures.specs.declared.pictures.Picture.{Picture}
use Rattle.doc_pictures.specs.Names.{picture_path}

-- the bytes of a file
abbrev pub file_bytes : List ℕ → Picture → List ℕ
file_bytes stream picture = slice_range stream picture.file.from picture.file.to

-- it lies in the stream
pub record IsWithinStream (stream : List ℕ) (picture : Picture) : Type 0 where
  pub ordered : picture.file.from ≤ picture.file.to
  pub within : picture.file.to ≤ length stream

abbrev pub AreWithinStream : List ℕ → List Picture → Type 0
AreWithinStream stream pictures = All (IsWithinStream stream) pictures

-- a name is not there, or files are written over
abbrev pub MayWrite : (force : Bool) → List ℕ → Option Files → Type 0
MayWrite true name held = ⊤
MayWrite false name held = Told held name IsAbsent

-- a name holds a file
abbrev pub IsThere : Option (List ℕ) → Type 0
IsThere None = ⊥
IsThere (Some bytes) = ⊤

-- a name holds a file that is not to be written over
pub record IsHeld (force : Bool) (name : List ℕ) (held : Option Files) : Type 0 where
  pub keeps : force ≡ false
  pub there : Told held name IsThere

-- the bytes were written under the name
pub record IsWritten (force : Bool) (name bytes : List ℕ) (before after : Option Files) : Type 0 where
  pub may : MayWrite force name before
  pub held : after ≡ held_with before name bytes

-- the files of pictures were written, the first of which has this number
abbrev pub WritesPictures : (force : Bool) → (folder stream : List ℕ) → ℕ → List Picture → (before after : Option Files)
    → Type 0
WritesPictures force folder stream number [] before after = after ≡ before
WritesPictures force folder stream number (picture ∷ more) before after =
    MayWrite force (picture_path folder number picture.file.kind) before
    × WritesPictures force folder stream (number + 1) more
    (held_with before (picture_path folder number picture.file.kind) (file_bytes stream picture)) after

-- the path of one of the pictures
pub record IsPicturePath (folder : List ℕ) (pictures : List Picture) (name : List ℕ) : Type 0 where
  pub k : ℕ
  pub picture : Picture
  pub there : slice_get pictures k ≡ Some picture
  pub path : name ≡ picture_path folder (k + 1) picture.file.kind

-- the path of one of the pictures holds a file that is not to be written over
pub record IsPathTaken (force : Bool) (folder : List ℕ) (pictures : List Picture) (held : Option Files) : Type 0 where
  pub name : List ℕ
  pub path : IsPicturePath folder pictures name
  pub holds : IsHeld force name held

-- the files of the pictures before one were written, and nothing is said of the name of that one
pub record IsCutShort (force : Bool) (folder stream : List ℕ) (pictures : List Picture) (before after : Option Files) :
    Type 0 where
  pub k : ℕ
  pub picture : Picture
  pub there : slice_get pictures k ≡ Some picture
  pub mid : Option Files
  pub written : WritesPictures force folder stream 1 (take k pictures) before mid
  pub others : OthersStay (picture_path folder (k + 1) picture.file.kind) mid after
