-- What a WordDocument keeps of an older one that it was written behind: the form of the FIB, the bytes behind it, and
-- at each older place the page that its bin tables name.
use Rattle.std.specs.Prelude.{◌≡◌, ℕ, ◌<◌, ◌≤◌, List, length, slice_index}
use Rattle.fib_form.specs.Fib.{fib_form}
use Rattle.fkp_pages.specs.Rows.{KeepsRanges}
use Rattle.save_laws.specs.Places.{PagedStream, fib_end}

-- the FIB has the form of the older stream's, and the bytes behind it are those of the older stream, as far as it goes
pub record KeepsBytes (old new : List ℕ) : Type 0 where
  pub longer : length old ≤ length new
  pub bytes : (i : ℕ) → fib_end old ≤ i → i < length old → slice_index new i ≡ slice_index old i
  pub form : fib_form new ≡ fib_form old

-- at each place before this one a stream has the bytes and the pages of an older stream, which ends there or earlier
pub record KeepsPages (old new : PagedStream) (before : ℕ) : Type 0 where
  pub bytes : KeepsBytes old.wd new.wd
  pub within : length old.wd ≤ before
  pub characters : KeepsRanges old.characters new.characters before
  pub paragraphs : KeepsRanges old.paragraphs new.paragraphs before
