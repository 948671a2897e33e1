-- The files of the pictures of a document are written, and its page is shown.
use Rattle.std.specs.Prelude.{◌≡◌, ◌⊎◌, ℕ, Bool, false, List, [], Option, Some, None}
use Rattle.cfb_streams.specs.Contents.{Contents, HasNamed, HasNoNamed, Stream}
use Rattle.cfb_streams.specs.Container.{HasContents}
use Rattle.inline_pictures.specs.declared.kind.PictureKind.{PictureKind}
use Rattle.doc_model.specs.declared.document.Document.{Document}
use Rattle.doc_outer.specs.Held.{Files, HoldsExactly, StaysAt, Told}
use Rattle.doc_outer.specs.declared.shelf.Shelf.{Ghosts}
use Rattle.doc_pictures.specs.declared.album.AlbumFault.{AlbumFault}
use Rattle.doc_pictures.specs.declared.album.AlbumFault.TheVariants.{There, Failed, Memory}
use Rattle.doc_pictures.specs.declared.pictures.Picture.{Picture}
use Rattle.doc_pictures.specs.Places.{picture_places}
use Rattle.doc_pictures.specs.Names.{picture_path}
use Rattle.doc_pictures.specs.Pictures.{ArePictures}
use Rattle.doc_pictures.specs.Album.{IsCutShort, IsThere, WritesPictures}
use Rattle.doc_pictures.specs.Files.{ImageFiles, no_image_files}
use Rattle.run_stages.specs.Leaves.{IsOnlyRead}
use Rattle.run_stages.specs.Outcomes.{Outcome, says}
use Rattle.docview_run.specs.declared.view.View.{View}
use Rattle.docview_run.specs.Requests.{Request, help, version, page, pictured, properties}
use Rattle.docview_run.specs.Viewed.{IsViewed}
use Rattle.huge_papx.specs.Data.{data_name}

-- its bytes; where it is not there it has none
abbrev pub IsDataIn : List Stream → List ℕ → Type 0
IsDataIn streams bytes = HasNamed streams data_name bytes ⊎ (HasNoNamed streams data_name × (bytes ≡ []))

pub record IsDataOf (file bytes : List ℕ) : Type 0 where
  pub contents : Contents
  pub has : HasContents file contents
  pub there : IsDataIn contents.streams bytes

-- the pictures of a document of a file
pub record ArePicturesOf (file : List ℕ) (document : Document) (pictures : List Picture) : Type 0 where
  pub stream : List ℕ
  pub is : IsDataOf file stream
  pub are : ArePictures stream (picture_places document) pictures

-- the files that a page names: those of the pictures of its document in a folder, or none
abbrev pub NamesFiles : Option (List ℕ) → (file : List ℕ) → Document → ImageFiles → Type 0
NamesFiles None file document images = images ≡ no_image_files
NamesFiles (Some folder) file document images = (images.folder ≡ folder) × ArePicturesOf file document images.pictures

-- ---- files that are written

-- the files of the pictures of a document in these bytes were written into a folder
pub record WritesIn (force : Bool) (folder stream : List ℕ) (document : Document) (pictures : List Picture)
    (before after : Option Files) : Type 0 where
  pub are : ArePictures stream (picture_places document) pictures
  pub writes : WritesPictures force folder stream 1 pictures before after

-- or those before one of them
pub record CutsIn (force : Bool) (folder stream : List ℕ) (document : Document) (before after : Option Files) : Type 0 where
  pub pictures : List Picture
  pub are : ArePictures stream (picture_places document) pictures
  pub cut : IsCutShort force folder stream pictures before after

-- the same of a file
pub record WritesOf (force : Bool) (folder file : List ℕ) (document : Document) (pictures : List Picture)
    (before after : Option Files) : Type 0 where
  pub stream : List ℕ
  pub is : IsDataOf file stream
  pub writes : WritesIn force folder stream document pictures before after

pub record CutsOf (force : Bool) (folder file : List ℕ) (document : Document) (before after : Option Files) : Type 0 where
  pub stream : List ℕ
  pub is : IsDataOf file stream
  pub cuts : CutsIn force folder stream document before after

-- all of them, or some
abbrev pub WritesAll : (force : Bool) → (folder file : List ℕ) → Document → (before after : Option Files) → Type 0
WritesAll force folder file document before after =
    (pictures : List Picture) × WritesOf force folder file document pictures before after

abbrev pub WritesSome : (force : Bool) → (folder file : List ℕ) → Document → (before after : Option Files) → Type 0
WritesSome force folder file document before after =
    WritesAll force folder file document before after ⊎ CutsOf force folder file document before after

-- those of the document that is shown, and of what is read in place of its file
pub record WritesViewed (strict force : Bool) (folder file : List ℕ) (before after : Option Files) : Type 0 where
  pub read : List ℕ
  pub document : Document
  pub viewed : IsViewed strict file read document
  pub writes : WritesAll force folder read document before after

pub record StaysViewed (strict force : Bool) (folder file : List ℕ) (before after : Option Files) : Type 0 where
  pub read : List ℕ
  pub document : Document
  pub viewed : IsViewed strict file read document
  pub stays : WritesSome force folder read document before after

-- the same of the file of a name
pub record WritesShown (strict force : Bool) (folder name : List ℕ) (before after : Option Files) : Type 0 where
  pub file : List ℕ
  pub told : Told before name (HoldsExactly file)
  pub writes : WritesViewed strict force folder file before after

pub record StaysShown (strict force : Bool) (folder name : List ℕ) (before after : Option Files) : Type 0 where
  pub file : List ℕ
  pub told : Told before name (HoldsExactly file)
  pub stays : StaysViewed strict force folder file before after

-- the name of a picture in a folder
pub record IsPictureName (folder name : List ℕ) : Type 0 where
  pub number : ℕ
  pub kind : PictureKind
  pub path : name ≡ picture_path folder number kind

-- ---- what a run leaves

-- what names hold once the pictures of a document were written, or some of them: other names hold what they held, at
-- status 0 all files are there, and at any other one those before the one that was not written
pub record LeavesHeld (force : Bool) (folder file : List ℕ) (document : Document) (status : ℕ)
    (before after : Option Files) : Type 0 where
  pub others : (other : List ℕ) → ¬ (IsPictureName folder other) → StaysAt other before after
  pub written : status ≡ 0 → WritesAll force folder file document before after
  pub cut : (after ≡ before) ⊎ WritesSome force folder file document before after

-- the same of the document that is shown
pub record LeavesTaken (strict force : Bool) (folder file : List ℕ) (status : ℕ) (before after : Option Files) :
    Type 0 where
  pub others : (other : List ℕ) → ¬ (IsPictureName folder other) → StaysAt other before after
  pub written : status ≡ 0 → WritesViewed strict force folder file before after
  pub cut : (after ≡ before) ⊎ StaysViewed strict force folder file before after

-- a shelf after a run that wrote pictures: other names hold what they held; at status 0 the files are those of the document
-- that is shown; at another one it was only read, or the files that were written stay
pub record LeavesPictures {S : Type 0} (shelf : Ghosts S) (strict force : Bool) (folder name : List ℕ) (status : ℕ)
    (before now : S) : Type 0 where
  pub others : (other : List ℕ) → ¬ (IsPictureName folder other) → StaysAt other (shelf.held before) (shelf.held now)
  pub written : status ≡ 0 → WritesShown strict force folder name (shelf.held before) (shelf.held now)
  pub cut :
      (shelf.held now ≡ shelf.held before) ⊎ StaysShown strict force folder name (shelf.held before) (shelf.held now)

-- a shelf after a run: it was only read, unless pictures are asked for
abbrev pub Leaves : {S : Type 0} → Ghosts S → Option Request → ℕ → S → S → Type 0
Leaves shelf None status before now = IsOnlyRead shelf before now
Leaves shelf (Some help) status before now = IsOnlyRead shelf before now
Leaves shelf (Some version) status before now = IsOnlyRead shelf before now
Leaves shelf (Some (page view file)) status before now = IsOnlyRead shelf before now
Leaves shelf (Some (pictured view folder force file)) status before now =
    LeavesPictures shelf view.strict force folder file status before now
Leaves shelf (Some (properties form file)) status before now = IsOnlyRead shelf before now

-- a file of a picture is there, and is not to be written over
pub record IsFileThere (force : Bool) (folder : List ℕ) (held : Option Files) : Type 0 where
  pub keeps : force ≡ false
  pub name : List ℕ
  pub is : IsPictureName folder name
  pub there : Told held name IsThere

pub record IsKeptFile (force : Bool) (folder : List ℕ) (held : Option Files) (outcome : Outcome) : Type 0 where
  pub file : IsFileThere force folder held
  pub ends : outcome ≡ says 8 []

-- files that are there are to be kept
abbrev pub KeepsFiles : Option Request → Type 0
KeepsFiles request =
    (view : View) × ((folder : List ℕ) × ((file : List ℕ) × (request ≡ Some (pictured view folder false file))))

-- the status of a fault
abbrev pub fault_status : AlbumFault → ℕ
fault_status There = 8
fault_status Failed = 4
fault_status Memory = 6
