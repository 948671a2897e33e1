-- [MS-DOC] PChgTabsPapxOperand: cTabs, that many positions that are deleted, cTabs, that many positions that are added,
-- and a byte for the kind of each of them. Positions are signed 16-bit numbers, in twentieths of a point.
use Rattle.std.specs.Prelude.{◌≡◌, ◌≢◌, ◌⊎◌, ℕ, ℤ, ◌+◌, ◌*◌, ◌<◌, List, length, slice_index}
use Rattle.std.specs.Int.{cast_signed, w16}
use Rattle.doc_bits.specs.Number.{u16_at}
use Rattle.effective_props.specs.declared.tabs.Tab.{Tab}

-- how many positions are deleted
abbrev pub deleted_count : List ℕ → ℕ
deleted_count value = slice_index value 0

-- where the number of added positions is
abbrev pub added_count_place : List ℕ → ℕ
added_count_place value = 1 + 2 * deleted_count value

-- how many positions are added
abbrev pub added_count : List ℕ → ℕ
added_count value = slice_index value (added_count_place value)

-- where the kinds of the added positions are
abbrev pub kinds_place : List ℕ → ℕ
kinds_place value = added_count_place value + 1 + 2 * added_count value

-- the deleted position with this number
abbrev pub deleted_position : List ℕ → ℕ → ℤ
deleted_position value i = cast_signed w16 (u16_at value (1 + 2 * i))

-- the added position with this number
abbrev pub added_position : List ℕ → ℕ → ℤ
added_position value i = cast_signed w16 (u16_at value (added_count_place value + 1 + 2 * i))

-- and its kind
abbrev pub added_kind : List ℕ → ℕ → ℕ
added_kind value i = slice_index value (kinds_place value + i)

-- the value has this form, and nothing more
-- Profile: a value of another form changes no stops
pub record IsTabChange (value : List ℕ) : Type 0 where
  pub counted : added_count_place value < length value
  pub whole : length value ≡ kinds_place value + added_count value

-- the value deletes a stop at the position
pub record Deletes (value : List ℕ) (position : ℤ) : Type 0 where
  pub number : ℕ
  pub within : number < deleted_count value
  pub at : deleted_position value number ≡ position

-- the value adds a stop, of this kind where it names the position last
pub record AddsTab (value : List ℕ) (tab : Tab) : Type 0 where
  pub number : ℕ
  pub within : number < added_count value
  pub at : added_position value number ≡ tab.at
  pub kind : added_kind value number ≡ tab.kind
  pub last : (later : ℕ) → number < later → later < added_count value → added_position value later ≢ tab.at

-- the value says something of the position
abbrev pub Mentions : List ℕ → ℤ → Type 0
Mentions value position = Deletes value position ⊎ ((kind : ℕ) × AddsTab value (record { at = position; kind = kind }))
