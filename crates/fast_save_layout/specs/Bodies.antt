-- What is made on the way to the file.
use Rattle.std.specs.Prelude.{◌≡◌, ◌⊎◌, ℕ, ◌-◌, ◌<◌, ◌≤◌, List, ◌++◌, length, drop, replicate}
use Rattle.doc_bits.specs.Rules.{Hold}
use Rattle.cfb_streams.specs.Contents.{NamedBytes, AreStreams}
use Rattle.cfb_streams.specs.Container.{container_rules, HasContents}
use Rattle.cfb_streams.specs.Names.{wd_name, table_name}
use Rattle.cfb_layout.specs.Counts.{Fits}
use Rattle.cfb_layout.specs.Faults.{IsLayoutFault}
use Rattle.cfb_layout.specs.Layout.{lengths_of, compound_file}
use Rattle.cfb_layout.specs.Sectors.{filled}
use Rattle.cfb_layout.specs.declared.faults.LayoutFault.{LayoutFault}
use Rattle.cfb_in_place.specs.Change.{StreamChange}
use Rattle.cfb_in_place.specs.Contract.{CanBePutInPlace, IsSavedInPlace, IsInPlaceFault}
use Rattle.fib_form.specs.FibBytes.{written_fib}
use Rattle.piece_table.specs.Printing.{IsPrintedClx}
use Rattle.doc_model.specs.Document.{IsFormedText}
use Rattle.doc_model.specs.Formed.{IsFormed}
use Rattle.fast_save_layout.specs.declared.added.AddedBody.{AddedBody}
use Rattle.fast_save_layout.specs.declared.saving.SavedFile.{SavedFile}
use Rattle.fast_save_layout.specs.declared.writing.NewParts.{NewParts}
use Rattle.fast_save_layout.specs.Saves.{FastSave}
use Rattle.fast_save_layout.specs.RenewedStreams.{bytes_named, renewed_streams}
use Rattle.fast_save_layout.specs.Appended.{added_bytes, fast_text, fast_table, fast_fib}

-- WordDocument from the added text on, whose items are well formed, and what the table stream says of the text, with a
-- Clx of the pieces
pub record IsAddedBody (save : FastSave) (body : AddedBody) : Type 0 where
  pub items : IsFormedText save.added
  pub bytes : body.bytes ≡ added_bytes save
  pub printed : IsPrintedClx save.pieces body.text.clx
  pub text : body.text ≡ fast_text save body.text.clx

-- the parts of a save of a well-formed document, with a Clx of its pieces and room for one more quick save
pub record AreNewParts (save : FastSave) (parts : NewParts) : Type 0 where
  pub formed : IsFormed save.document
  pub items : IsFormedText save.added
  pub clx : List ℕ
  pub printed : IsPrintedClx save.pieces clx
  pub few_saves : save.fib.quick_saves < 15
  pub fib : parts.fib ≡ written_fib (fast_fib save clx)
  pub added : parts.added ≡ added_bytes save
  pub table : parts.table ≡ fast_table save clx

-- ---- the file of the parts

-- WordDocument and the name of the table stream of the file that is there
abbrev pub wd_there : SavedFile → List ℕ
wd_there old = bytes_named old.container.now.streams wd_name

abbrev pub name_there : SavedFile → List ℕ
name_there old = table_name old.fib.now.which_table

-- its streams with the new parts, where they are laid out anew
abbrev pub streams_by : SavedFile → ℕ → NewParts → List NamedBytes
streams_by old base parts =
    renewed_streams (name_there old)
    (filled base 0 (parts.fib ++ drop (length parts.fib) (wd_there old)) ++ parts.added) parts.table
    old.container.now.streams

-- what is changed, where the file keeps its own sectors
abbrev pub change_by : SavedFile → ℕ → NewParts → StreamChange
change_by old base parts = record {
  fib = parts.fib;
  tail = replicate (base - length (wd_there old)) 0 ++ parts.added;
  table = parts.table;
}

-- the parts can be written in each of these ways
pub record CanBeLaidOut (old : SavedFile) (base : ℕ) (parts : NewParts) : Type 0 where
  pub fib : length parts.fib ≤ length (wd_there old)
  pub streams : AreStreams (streams_by old base parts)
  pub few : length old.container.now.streams ≤ 1023

pub record CanBePutBehind (old : SavedFile) (base : ℕ) (parts : NewParts) : Type 0 where
  pub rules : Hold (container_rules old.bytes.now)
  pub contents : HasContents old.bytes.now old.container.now
  pub change : CanBePutInPlace old.container.now (change_by old base parts) (name_there old)

-- and are written in that of the old WordDocument
pub record CanBeWritten (old : SavedFile) (base : ℕ) (parts : NewParts) : Type 0 where
  pub anew : length (wd_there old) < 4096 → CanBeLaidOut old base parts
  pub behind : 4096 ≤ length (wd_there old) → CanBePutBehind old base parts

abbrev pub IsLaidOut : SavedFile → ℕ → NewParts → List ℕ → Type 0
IsLaidOut old base parts file =
    Fits (lengths_of (streams_by old base parts))
    × (file ≡ compound_file (streams_by old base parts) old.container.now.clsid)

abbrev pub IsPutBehind : SavedFile → ℕ → NewParts → List ℕ → Type 0
IsPutBehind old base parts file =
    IsSavedInPlace old.bytes.now file old.container.now (change_by old base parts) (name_there old)

abbrev pub IsWrittenBy : SavedFile → ℕ → NewParts → List ℕ → Type 0
IsWrittenBy old base parts file =
    ((length (wd_there old) < 4096) × IsLaidOut old base parts file)
    ⊎ ((4096 ≤ length (wd_there old)) × IsPutBehind old base parts file)

-- too many sectors, or want of memory, in that way
abbrev pub IsPutFault : SavedFile → ℕ → NewParts → LayoutFault → Type 0
IsPutFault old base parts fault =
    IsInPlaceFault old.bytes.now old.container.now (change_by old base parts) (name_there old) fault

abbrev pub IsWriteFault : SavedFile → ℕ → NewParts → LayoutFault → Type 0
IsWriteFault old base parts fault =
    ((length (wd_there old) < 4096) × IsLayoutFault (lengths_of (streams_by old base parts)) fault)
    ⊎ ((4096 ≤ length (wd_there old)) × IsPutFault old base parts fault)
