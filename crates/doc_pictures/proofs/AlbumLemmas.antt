-- Files that are written one behind the other.
use Rattle.std.proofs.Common.{◌≡◌, ◌∙◌, ℕ, suc, ◌+◌, ◌<◌, Bool, List, [], ◌∷◌, ◌++◌, length, take, refl, sym, subst, arith}
use Rattle.std.proofs.Common.{Option, None, Some, length-take}
use Rattle.std.specs.Prelude.{slice_get}
use Rattle.std.specs.List.{All}
use Rattle.std.proofs.lemmas.List.Elements.{All-cons, All-nil}
use Rattle.std.proofs.lemmas.Option.{slice_get_within}
use Rattle.doc_outer.specs.Held.{Files, OthersStay, StaysAt, held_with}
use Rattle.doc_outer.proofs.Public.{StaysAt-refl}
use Rattle.doc_pictures.specs.declared.pictures.Picture.{Picture}
use Rattle.doc_pictures.specs.Names.{picture_path}
use Rattle.doc_pictures.specs.Pictures.{ArePicturesInOrder, ArePictures}
use Rattle.doc_pictures.specs.Album.{AreWithinStream, IsPicturePath, IsWithinStream, IsWritten, WritesPictures}
use Rattle.doc_pictures.specs.Album.{file_bytes}
use Rattle.doc_pictures.proofs.RangeLemmas.{picture-lies}
use Rattle.doc_bits.proofs.Public.{take_step}

-- ---- names that stay

pub stays-same : (held after : Option Files) → after ≡ held → (name : List ℕ) → OthersStay name held after
stays-same held after same name = λ other apart.
    subst (λ (h : Option Files). StaysAt other held h) (sym same) (StaysAt-refl other held)

pub stays-on : (name : List ℕ) (first mid now : Option Files) → StaysAt name first mid → StaysAt name mid now →
    StaysAt name first now
stays-on name None None None a b = tt
stays-on name None None (Some now) a b = b
stays-on name None (Some mid) now a b = absurd a
stays-on name (Some first) None now a b = absurd a
stays-on name (Some first) (Some mid) None a b = b
stays-on name (Some first) (Some mid) (Some now) a b = b ∙ a

-- the place of a picture is within the list
pub within-length : (pictures : List Picture) (k : ℕ) (picture : Picture) → slice_get pictures k ≡ Some picture →
    k < length pictures
within-length pictures k picture here = slice_get_within pictures k picture here

-- ---- one file more

writes-push : (force : Bool) (folder stream : List ℕ) (number : ℕ) (pictures : List Picture) (picture : Picture)
    (before mid after : Option Files) → WritesPictures force folder stream number pictures before mid →
    IsWritten force (picture_path folder (number + length pictures) picture.file.kind) (file_bytes stream picture) mid after →
    WritesPictures force folder stream number (pictures ++ picture ∷ []) before after
writes-push force folder stream number [] picture before mid after same is =
    let place : number + 0 ≡ number = omega arith in
    let here = subst (λ (n : ℕ). IsWritten force (picture_path folder n picture.file.kind) (file_bytes stream picture) mid
    after) place is in
    let one = subst (λ (held : Option Files). IsWritten force (picture_path folder number picture.file.kind)
    (file_bytes stream picture) held after) same here in
    (one.may, one.held)
writes-push force folder stream number (first ∷ more) picture before mid after are is =
    let place : number + suc (length more) ≡ number + 1 + length more = omega arith in (
      are.0,
      writes-push force folder stream (number + 1) more picture
          (held_with before (picture_path folder number first.file.kind) (file_bytes stream first)) mid after are.1
          (subst (λ (n : ℕ). IsWritten force (picture_path folder n picture.file.kind) (file_bytes stream picture) mid after)
          place is),
    )

-- the next picture of a list
pub writes-on : (force : Bool) (folder stream : List ℕ) (pictures : List Picture) (k : ℕ) (picture : Picture)
    (before mid after : Option Files) → slice_get pictures k ≡ Some picture → k < length pictures →
    WritesPictures force folder stream 1 (take k pictures) before mid →
    IsWritten force (picture_path folder (k + 1) picture.file.kind) (file_bytes stream picture) mid after →
    WritesPictures force folder stream 1 (take (k + 1) pictures) before after
writes-on force folder stream pictures k picture before mid after here within are is =
    let long = length-take k pictures in
    let number : k + 1 ≡ 1 + length (take k pictures) = omega (arith, long, within) in
    subst (λ (front : List Picture). WritesPictures force folder stream 1 front before after) (sym (take_step pictures k
    picture
    here))
    (writes-push force folder stream 1 (take k pictures) picture before mid after are
    (subst (λ (n : ℕ). IsWritten force (picture_path folder n picture.file.kind) (file_bytes stream picture) mid after)
    number is))

pub none-written : (force : Bool) (folder stream : List ℕ) (number : ℕ) (held : Option Files) →
    WritesPictures force folder stream number [] held held
none-written force folder stream number held = refl

-- a name that is that of no picture stays
pub stays-by : (folder : List ℕ) (pictures : List Picture) (k : ℕ) (picture : Picture) (first mid now : Option Files)
    (name : List ℕ) → slice_get pictures k ≡ Some picture → ¬ (IsPicturePath folder pictures name) →
    StaysAt name first mid → OthersStay (picture_path folder (k + 1) picture.file.kind) mid now → StaysAt name first now
stays-by folder pictures k picture first mid now name here other stays others =
    stays-on name first mid now stays
    (others name (λ same. other (record { k = k; picture = picture; there = here; path = same })))

-- ---- files in the stream

within-order : (stream places : List ℕ) (ended : ℕ) (pictures : List Picture) → ArePicturesInOrder stream places ended
    pictures →
    AreWithinStream stream pictures
within-order stream places ended [] are = All-nil (IsWithinStream stream)
within-order stream places ended (picture ∷ more) are =
    let lies = picture-lies stream picture.place picture.file are.0.has.picture in
    let some = lies.some in
    All-cons (IsWithinStream stream) picture more (record { ordered = omega (arith, some); within = lies.ends })
    (within-order stream places picture.file.to more are.1)

pub pictures-within : (stream places : List ℕ) (pictures : List Picture) → ArePictures stream places pictures →
    AreWithinStream stream pictures
pictures-within stream places pictures are = within-order stream places 0 pictures are.in_order
