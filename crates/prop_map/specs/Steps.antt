-- How far going through a list has come.
use Rattle.std.specs.Prelude.{◌≡◌, ℕ, List, ◌++◌, Option}
use Rattle.sprm_table.specs.Sprm.{Prl, SpellsSprmList}
use Rattle.sprm_table.specs.Cursor.{SprmCursor, left}
use Rattle.prop_map.specs.Settings.{Properties}
use Rattle.prop_map.specs.Acting.{ArePropertiesAfter, style_named}
use Rattle.prop_map.specs.Modifiers.{clears_characters}

-- the first entries of the list were acted with, and the others are left
pub record HasActedUpTo (list : List Prl) (groups : ℕ) (old : Properties) (cursor : SprmCursor) (now : Properties)
    (istd : Option ℕ) : Type 0 where
  pub done : List Prl
  pub others : List Prl
  pub joined : list ≡ done ++ others
  pub spelt : SpellsSprmList (left cursor) others
  pub map : ArePropertiesAfter done groups old now
  pub style : istd ≡ style_named done groups

-- no entry so far clears characters
pub record HasNotClearedUpTo (list : List Prl) (cursor : SprmCursor) : Type 0 where
  pub others : List Prl
  pub spelt : SpellsSprmList (left cursor) others
  pub same : clears_characters list ≡ clears_characters others
