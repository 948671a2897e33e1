-- A count for each code, and the number of the last list that was met with it.
use Rattle.std.specs.Prelude.{◌≡◌, ◌≢◌, ℕ, ◌+◌, ◌-◌, ◌^◌, ◌<◌, ◌≤◌, ◌==◌, min, Bool, length, slice_index}
use Rattle.std.specs.Prelude.{if◌then◌else◌}
use Rattle.code_losses.specs.declared.counts.Tally.{Tally}

-- the codes of 16 bits
abbrev pub code_count : ℕ
code_count = 65536

pub record HasCodes (tally : Tally) : Type 0 where
  pub counts : length tally.counts.items ≡ code_count
  pub lists : length tally.lists.items ≡ code_count

-- no list was met
pub record HasNone (tally : Tally) : Type 0 where
  pub codes : HasCodes tally
  pub counts : (code : ℕ) → slice_index tally.counts.items code ≡ 0
  pub lists : (code : ℕ) → slice_index tally.lists.items code ≡ 0

-- the count of a code, and the number of its list
pub record HasTallyEntry (tally : Tally) (code count number : ℕ) : Type 0 where
  pub count_is : slice_index tally.counts.items code ≡ count
  pub list_is : slice_index tally.lists.items code ≡ number

-- a code is met in the list of this number, and counted where it was not met there before
pub record MeetsCode (old new : Tally) (code number : ℕ) (before : Bool) : Type 0 where
  pub below : code < code_count
  pub codes : HasCodes new
  pub known : before ≡ (slice_index old.lists.items code == number)
  pub here :
      HasTallyEntry new code
      (if before then slice_index old.counts.items code else min (slice_index old.counts.items code + 1) (2 ^ 64 - 1))
      number
  pub others : (other : ℕ) → other ≢ code →
      HasTallyEntry new other (slice_index old.counts.items other) (slice_index old.lists.items other)

-- the counts are these; a code has the number of the list where the list has it
pub record IsTally (tally : Tally) (number : ℕ) (count : ℕ → ℕ) (has : ℕ → Bool) : Type 0 where
  pub codes : HasCodes tally
  pub counts : (code : ℕ) → code < code_count → slice_index tally.counts.items code ≡ count code
  pub met : (code : ℕ) → code < code_count → (slice_index tally.lists.items code == number) ≡ has code
  pub low : (code : ℕ) → code < code_count → slice_index tally.lists.items code ≤ number
