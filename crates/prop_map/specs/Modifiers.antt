-- Profile: the modifier of a piece, as what it does to characters and to paragraph marks.
use Rattle.std.specs.Prelude.{◌≡◌, ℕ, Bool, false, ◌&&◌, ◌||◌, not, List, [], ◌∷◌, ◌++◌, Option, Some, None}
use Rattle.std.specs.Prelude.{if◌then◌else◌}
use Rattle.std.specs.Option.{option_or, unwrap_or}
use Rattle.std.specs.List.{flat_map, list_any}
use Rattle.std.specs.FinMap.{entries, empty, get}
use Rattle.doc_bits.specs.Number.{number_bytes}
use Rattle.sprm_table.specs.Codes.{is_held, class_of, is_clear}
use Rattle.sprm_table.specs.Sprm.{Prl, spelling, SpellsSprmList}
use Rattle.prop_map.specs.declared.modifiers.Modifier.{Modifier}
use Rattle.prop_map.specs.Settings.{Properties}
use Rattle.prop_map.specs.Formed.{character_groups, paragraph_groups, IsPropertyMap}
use Rattle.prop_map.specs.Acting.{is_kept_by_plain, value_after, style_named, ArePropertiesAfter}

-- the modifier that does nothing
abbrev pub no_modifier : Modifier
no_modifier = record { istd = None; clear = false; chp = empty; pap = empty }

-- the value at a code where a map is put over a value, which a clear removed first unless the code is kept
abbrev pub value_over : Bool → ℕ → Option (List ℕ) → Option (List ℕ) → Option (List ℕ)
value_over clear code over before = option_or over (if clear && not (is_kept_by_plain code) then None else before)

-- the map where one was put over another, which may be cleared first
abbrev pub IsOver : Bool → Properties → Properties → Properties → Type 0
IsOver clear over base new = (code : ℕ) → get new code ≡ value_over clear code (get over code) (get base code)

-- the map with nothing put over it
abbrev pub IsClearedWhere : Bool → Properties → Properties → Type 0
IsClearedWhere clear base new = (code : ℕ) → get new code ≡ value_over clear code None (get base code)

-- what the modifier leaves at a code of a character
abbrev pub character_value : Modifier → ℕ → Option (List ℕ) → Option (List ℕ)
character_value modifier code before = value_over modifier.clear code (get modifier.chp code) before

-- what it leaves at a code of a mark
abbrev pub mark_value : Modifier → ℕ → Option (List ℕ) → Option (List ℕ)
mark_value modifier code before = option_or (get modifier.pap code) before

-- the style number that it leaves at a mark
abbrev pub mark_style : Modifier → ℕ → ℕ
mark_style modifier istd = unwrap_or modifier.istd istd

-- the list clears characters
abbrev pub clears_characters : List Prl → Bool
clears_characters prls = list_any (λ prl. is_held character_groups prl.0 && is_clear (class_of prl.0)) prls

-- the modifier is that of the list: the style and the properties of marks, whether characters are cleared, and their
-- properties
pub record IsModifierOf (prls : List Prl) (modifier : Modifier) : Type 0 where
  pub style : modifier.istd ≡ style_named prls paragraph_groups
  pub marks : ArePropertiesAfter prls paragraph_groups empty modifier.pap
  pub clear : modifier.clear ≡ clears_characters prls
  pub characters : ArePropertiesAfter prls character_groups empty modifier.chp

-- the modifier does to characters and to marks what the list does
pub record DoesAsListed (prls : List Prl) (modifier : Modifier) : Type 0 where
  pub characters : (code : ℕ) (before : Option (List ℕ)) → character_value modifier code before ≡ value_after prls
      character_groups code before
  pub marks : (code : ℕ) (before : Option (List ℕ)) → mark_value modifier code before ≡ value_after prls
      paragraph_groups code before
  pub style : (istd : ℕ) → mark_style modifier istd ≡ unwrap_or (style_named prls paragraph_groups) istd

-- the same of the list that the bytes spell
abbrev pub IsSpeltModifier : List ℕ → Modifier → Type 0
IsSpeltModifier bytes modifier = (prls : List Prl) → SpellsSprmList bytes prls → IsModifierOf prls modifier

abbrev pub DoesAsSpelt : List ℕ → Modifier → Type 0
DoesAsSpelt bytes modifier = (prls : List Prl) → SpellsSprmList bytes prls → DoesAsListed prls modifier

-- the map of a character after the modifier
abbrev pub IsCharacterAfter : Modifier → Properties → Properties → Type 0
IsCharacterAfter modifier old new = (code : ℕ) → get new code ≡ character_value modifier code (get old code)

-- the map of a mark after the modifier
abbrev pub IsMarkAfter : Modifier → Properties → Properties → Type 0
IsMarkAfter modifier old new = (code : ℕ) → get new code ≡ mark_value modifier code (get old code)

-- the parts of the composed modifier
pub record IsComposed (first next made : Modifier) : Type 0 where
  pub istd : made.istd ≡ option_or next.istd first.istd
  pub clear : made.clear ≡ (first.clear || next.clear)
  pub chp : IsOver next.clear next.chp first.chp made.chp
  pub pap : IsOver false next.pap first.pap made.pap

-- it does what the first does and then the next, to characters and to marks
pub record ActsInTurn (first next made : Modifier) : Type 0 where
  pub characters : (code : ℕ) (before : Option (List ℕ)) → character_value made code before ≡ character_value next
      code (character_value first code before)
  pub marks : (code : ℕ) (before : Option (List ℕ)) → mark_value made code before ≡ mark_value next code
      (mark_value first code before)
  pub style : (istd : ℕ) → mark_style made istd ≡ mark_style next (mark_style first istd)

-- its maps meet the line on codes and values of a well-formed document
pub record IsFormedModifier (modifier : Modifier) : Type 0 where
  pub chp : IsPropertyMap character_groups modifier.chp
  pub pap : IsPropertyMap paragraph_groups modifier.pap

-- where both modifiers are so, the third one is
abbrev pub StaysFormedModifier : Modifier → Modifier → Modifier → Type 0
StaysFormedModifier first next made = IsFormedModifier first → IsFormedModifier next → IsFormedModifier made

-- the style as an entry: sprmPIstd
abbrev pub style_prls : Option ℕ → List Prl
style_prls None = []
style_prls (Some istd) = (0x4600, number_bytes 2 istd) ∷ []

-- the clear as an entry: sprmCPlain
abbrev pub clear_prls : Bool → List Prl
clear_prls clear = if clear then (0x2A33, 0 ∷ []) ∷ [] else []

-- Profile: a modifier is the style, the properties of marks, the clear, the properties of characters
abbrev pub modifier_prls : Modifier → List Prl
modifier_prls modifier = style_prls modifier.istd ++ (entries modifier.pap ++ (clear_prls modifier.clear ++ entries
    modifier.chp))

abbrev pub printed_modifier : Modifier → List ℕ
printed_modifier modifier = flat_map spelling (modifier_prls modifier)
