-- [MS-DOC] PlfLst: a 16-bit count and the LSTFs; after the part are the levels.
use Rattle.std.specs.Prelude.{◌≡◌, ◌⊎◌, ℕ, zero, suc, ◌+◌, ◌*◌, ◌%◌, ◌<◌, ◌≤◌, List, length, slice_index, slice_range}
use Rattle.std.specs.Prelude.{◌==◌, if◌then◌else◌}
use Rattle.doc_bits.specs.Number.{u16_at}
use Rattle.doc_bits.specs.Rules.{Rules, rule, Among}
use Rattle.doc_parts.specs.Table.{IsMalformedPart}

-- the part is empty, or has as many LSTFs of 28 bytes as its count says
abbrev pub HasLists : List ℕ → Type 0
HasLists part = (length part ≡ 0) ⊎ (2 + 28 * u16_at part 0 ≤ length part)

-- [MS-DOC] LSTF: one level where bit 0 of byte 26 says that the list is simple, else nine
abbrev pub levels_of_list : List ℕ → ℕ → ℕ
levels_of_list part k = (if slice_index part (2 + 28 * k + 26) % 2 == 1 then 1 else 9)

-- the levels of the first lists
unfoldable pub levels_before : List ℕ → ℕ → ℕ
levels_before part zero = 0
levels_before part (suc k) = levels_before part k + levels_of_list part k

-- the levels of all lists; a part of no bytes has none
abbrev pub level_count : List ℕ → ℕ
level_count part = levels_before part (u16_at part 0)

-- [MS-DOC] LVL: an LVLF of 28 bytes with the lengths of the character properties at 24 and of the paragraph
-- properties at 25, these two, and the text: a 16-bit count and the units
abbrev pub level_end : List ℕ → ℕ → ℕ
level_end table at =
    let text = at + 28 + slice_index table (at + 25) + slice_index table (at + 24) in text + 2 + 2 * u16_at table text

-- each level is right after the one before it
unfoldable pub level_start : List ℕ → ℕ → ℕ → ℕ
level_start table from zero = from
level_start table from (suc k) = level_end table (level_start table from k)

-- a level leaves the table stream
pub record LeavesTable (table : List ℕ) (from k place : ℕ) : Type 0 where
  pub here : place ≡ level_start table from k
  pub beyond : length table < level_start table from (k + 1)

-- the levels are whole, and end at this place
pub record AreLevelsFrom (table : List ℕ) (from count end : ℕ) : Type 0 where
  pub ends : end ≡ level_start table from count
  pub whole : (k : ℕ) → k < count → level_start table from (k + 1) ≤ length table
  pub after : from ≤ end
  pub within : end ≤ length table

-- the levels before one of them are whole, and that one leaves the table stream
pub record StopsAtLevel (table : List ℕ) (from count place : ℕ) : Type 0 where
  pub level : ℕ
  pub below : level < count
  pub levels : AreLevelsFrom table from level place
  pub leaves : LeavesTable table from level place

-- the part
abbrev pub list_part : List ℕ → ℕ → ℕ → List ℕ
list_part table at lcb = slice_range table at (at + lcb)

-- rule 56
abbrev pub level_rules : List ℕ → ℕ → ℕ → Rules ℕ
level_rules table at lcb =
    let part = list_part table at lcb in
    rule 56 (λ place. IsMalformedPart (HasLists part) at place
    ⊎ Among (level_count part) (LeavesTable table (at + lcb)) place)

-- the levels after the part have this number of bytes
abbrev pub HaveLength : List ℕ → ℕ → ℕ → ℕ → Type 0
HaveLength table at lcb len = at + lcb + len ≡ level_start table (at + lcb) (level_count (list_part table at lcb))
