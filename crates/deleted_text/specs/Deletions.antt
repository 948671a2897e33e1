-- [MS-DOC] sprmCFRMarkDel: the list of a text says that a reviser deleted it.
use Rattle.std.specs.Prelude.{◌≡◌, ◌≢◌, ℕ, ◌+◌, ◌≤◌, ◌==◌, Bool, true, false, not, List, length, Option, Some, None}
use Rattle.std.specs.Prelude.{slice_index}
use Rattle.std.specs.List.{filter, last_or}
use Rattle.doc_bits.specs.Number.{u16_at}
use Rattle.sprm_table.specs.Sprm.{Prl, SpellsSprmList}

abbrev pub is_deletion : Prl → Bool
is_deletion prl = prl.0 == 0x0800

-- the operand of the entry is not 0; without one what was said before counts
abbrev pub deleted_after : Option Prl → Bool → Bool
deleted_after None before = before
deleted_after (Some prl) before = not (slice_index prl.1 0 == 0)

-- what the last such entry says
abbrev pub deleted_by : Bool → List Prl → Bool
deleted_by before prls = deleted_after (last_or None (filter is_deletion prls)) before

-- the list that the bytes spell says that its text was deleted; a list that is cut short says nothing
pub record SaysDeleted (list : List ℕ) : Type 0 where
  pub prls : List Prl
  pub spelt : SpellsSprmList list prls
  pub deleted : deleted_by false prls ≡ true

-- no word of these bytes, wherever it begins, is the code
abbrev pub LacksCode : List ℕ → Type 0
LacksCode bytes = (at : ℕ) → at + 2 ≤ length bytes → u16_at bytes at ≢ 0x0800
