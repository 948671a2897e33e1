-- [MS-DOC] Sprm, sgc: no place of a document holds the group of pictures, so a code of it is skipped. A code that is
-- not read gets this group: its operand has the size that it had, so nothing else of a list changes.
use Rattle.std.specs.Prelude.{◌≡◌, ◌⊎◌, ℕ, ◌+◌, ◌-◌, ◌*◌, ◌/◌, ◌%◌, List, ◌++◌, length, map, take, drop, slice_range}
use Rattle.std.specs.Prelude.{if◌then◌else◌}
use Rattle.sprm_table.specs.Codes.{sgc, is_code_among, refused_codes}
use Rattle.sprm_table.specs.Sprm.{Prl, SpellsSprmList, IsAcceptedList}

-- the code with the group of pictures, 3
abbrev pub picture_code : ℕ → ℕ
picture_code code = code - sgc code * 1024 + 3 * 1024

-- a code that is not read gets this group
abbrev pub skipped_code : ℕ → ℕ
skipped_code code = if is_code_among code refused_codes then picture_code code else code

abbrev pub skipped : Prl → Prl
skipped prl = (skipped_code prl.0, prl.1)

-- the new bytes spell the entries that the old ones spell, with the codes that are not read skipped, and what ends the
-- list stays
pub record SkipsRefused (old new : List ℕ) : Type 0 where
  pub prls : List Prl
  pub spelt : SpellsSprmList old prls
  pub skips : SpellsSprmList new (map skipped prls)
  pub rest : skips.rest ≡ spelt.rest

-- the same of any bytes: a list that is cut short stays as it is
abbrev pub SkipsOrStays : List ℕ → List ℕ → Type 0
SkipsOrStays old new = SkipsRefused old new ⊎ ((¬ IsAcceptedList old 0) × (new ≡ old))

-- the sprms in this range are skipped, and nothing else changes
pub record PutsSkipped (old new : List ℕ) (from to : ℕ) : Type 0 where
  pub mid : List ℕ
  pub skips : SkipsOrStays (slice_range old from to) mid
  pub len : length mid ≡ to - from
  pub put : new ≡ take from old ++ (mid ++ drop to old)

-- the place does not hold the group of pictures
abbrev pub HoldsNoPictures : ℕ → Type 0
HoldsNoPictures groups = groups / 8 % 2 ≡ 0
