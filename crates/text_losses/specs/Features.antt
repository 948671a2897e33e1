-- What a file has by its lists, its text and its style sheet, and what of it this profile has a meaning for.
use Rattle.std.specs.Prelude.{ℕ, ◌+◌, ◌==◌, Bool, true, false, ◌&&◌, ◌||◌, not, List, [], ◌∷◌, nat_lt, if◌then◌else◌}
use Rattle.std.specs.List.{list_any, count_by, flat_map, range_with_len}
use Rattle.sprm_table.specs.declared.codes.Class.{Class}
use Rattle.sprm_table.specs.declared.codes.Class.TheVariants.{Plain, Toggle, Clear, Style, Refused}
use Rattle.sprm_table.specs.Codes.{sgc, is_held, class_of}
use Rattle.sprm_table.specs.Sprm.{Prl}
use Rattle.prop_map.specs.Formed.{character_groups, paragraph_groups, section_groups, prc_groups}
use Rattle.text_losses.specs.declared.features.ListKind.{ListKind}
use Rattle.text_losses.specs.declared.features.ListKind.TheVariants as lists

-- the groups that the place of a list holds
abbrev pub groups_of : ListKind → ℕ
groups_of lists.Chpx = character_groups
groups_of lists.Papx = paragraph_groups
groups_of lists.StyleChpx = character_groups
groups_of lists.StylePapx = paragraph_groups
groups_of lists.Prc = prc_groups
groups_of lists.Sepx = section_groups

-- the sprm is read
abbrev pub is_read : Class → Bool
is_read Plain = true
is_read Toggle = true
is_read Clear = true
is_read Style = true
is_read Refused = false

-- this profile has a meaning for the code in such a list
abbrev pub is_kept_code : ListKind → ℕ → Bool
is_kept_code kind code = is_read (class_of code) && is_held (groups_of kind) code

-- of a code of a section or a table, and of tab stops, the standard may add what is again; here the last one counts
abbrev pub is_added : ℕ → Bool
is_added code = sgc code == 4 || (sgc code == 5 || code == 0xC60D)
