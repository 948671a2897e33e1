-- Bytes in a block that are the text of units.
use Rattle.std.specs.Prelude.{◌≡◌, ℕ, ◌≤◌, Bool, List, ◌++◌, length, take}
use Rattle.std.specs.Str.{IsUtf8}
use Rattle.text_codes.specs.Shown.{shown_text}

-- the bytes are the text of the units, whatever follows these
pub record IsShownText (lines : Bool) (units bytes : List ℕ) : Type 0 where
  pub valid : IsUtf8 bytes
  pub shows : (after : List ℕ) → shown_text lines (units ++ after) ≡ bytes ++ shown_text lines after

-- behind the bytes of a front the block has the text of the units, up to an end
pub record HasTextBehind (lines : Bool) (units front block : List ℕ) (end : ℕ) : Type 0 where
  pub bytes : List ℕ
  pub text : IsShownText lines units bytes
  pub grown : take end block ≡ front ++ bytes
  pub room : end ≤ length block
