-- What the file of a run is: that which was given or last saved in full, and behind fast saves one that has grown
-- from it.
use Rattle.std.specs.Prelude.{◌≡◌, ℕ, zero, suc, ◌+◌, ◌≤◌, true, List, length}
use Rattle.fib_form.specs.FibFields.{fib_fields}
use Rattle.doc_read.specs.Holds.{FileParts, HasFileParts}
use Rattle.save_laws.specs.KeptPages.{KeepsBytes}
use Rattle.fast_save.specs.Edited.{bytes_added}
use Rattle.fast_save.specs.Fast.{KeepsSectors}
use Rattle.script_run.specs.States.{RunState, most_grown}

-- WordDocument of a file
pub record IsWordDocumentOf (file wd : List ℕ) : Type 0 where
  pub parts : FileParts
  pub has : HasFileParts file parts
  pub is : parts.text.wd ≡ wd

-- WordDocument of the second file has each byte of the first one behind the FIB, and so many bytes more at most; it
-- stays in its sectors; its FIB counts so many fast saves in a row
pub record HasGrownFrom (file : List ℕ) (most quick_saves : ℕ) (bytes : List ℕ) : Type 0 where
  pub old : List ℕ
  pub was : IsWordDocumentOf file old
  pub new : List ℕ
  pub is : IsWordDocumentOf bytes new
  pub kept : KeepsBytes old new
  pub grown : length new ≤ length old + most
  pub count : (fib_fields new).quick_saves ≡ quick_saves
  pub complex : (fib_fields new).complex ≡ true
  pub in_place : KeepsSectors file bytes old

-- after so many fast saves
abbrev pub HasGrownBySaves : ℕ → List ℕ → ℕ → ℕ → List ℕ → Type 0
HasGrownBySaves zero file most quick_saves bytes = bytes ≡ file
HasGrownBySaves (suc more) file most quick_saves bytes = HasGrownFrom file most quick_saves bytes

-- the file now: together with what was added since the last save it is no longer than may be
pub record IsFileOfState (state : RunState) (bytes : List ℕ) : Type 0 where
  pub most : ℕ
  pub within : most + bytes_added state.counts ≤ most_grown state.since
  pub grown : HasGrownBySaves state.since.fast_saves state.file most state.quick_saves bytes
