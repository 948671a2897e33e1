-- What maps may hold: the line on codes and values of a well-formed document.
use Rattle.std.specs.Prelude.{◌≡◌, ℕ, List, Some}
use Rattle.std.specs.FinMap.{get}
use Rattle.doc_bits.specs.Number.{AreBytes}
use Rattle.sprm_table.specs.Sprm.{Prl, IsProperty}
use Rattle.prop_map.specs.Settings.{Properties}

-- the groups that a place holds, bit sgc for each: characters 2, paragraphs 1 and 5, sections 4, a Prc 1, 2 and 5
abbrev pub character_groups : ℕ
character_groups = 0x04

abbrev pub paragraph_groups : ℕ
paragraph_groups = 0x22

abbrev pub section_groups : ℕ
section_groups = 0x10

abbrev pub prc_groups : ℕ
prc_groups = 0x26

-- an entry that a map at a place with these groups may hold: it sets its code, and its value is bytes
pub record IsMapEntry (groups : ℕ) (prl : Prl) : Type 0 where
  pub property : IsProperty groups prl
  pub bytes : AreBytes prl.1

-- the map has codes of these groups that set something, each with a value of bytes of its operand's size
abbrev pub IsPropertyMap : ℕ → Properties → Type 0
IsPropertyMap groups map = (code : ℕ) (value : List ℕ) → get map code ≡ Some value → IsMapEntry groups (code, value)

-- some place may hold the map
abbrev pub IsFormedMap : Properties → Type 0
IsFormedMap map = (groups : ℕ) × IsPropertyMap groups map

-- where a place may hold the old map, it may hold the new one
abbrev pub StaysFormed : ℕ → Properties → Properties → Type 0
StaysFormed groups old new = IsPropertyMap groups old → IsPropertyMap groups new
