-- Properties as an object: the codes are its keys, four digits each, and ascend; the bytes of the operands' values are
-- its values.
use Rattle.std.specs.Prelude.{◌≡◌, ℕ, ◌<◌, ◌^◌, List, [], ◌∷◌, ◌++◌, Bool, Some}
use Rattle.std.specs.List.{All}
use Rattle.std.specs.FinMap.{entries}
use Rattle.json.specs.Print.{quoted}
use Rattle.serde_json.specs.Data.{Data, object, Members, no_members, member}
use Rattle.serde_json.specs.Written.{comma_if, compact_text}
use Rattle.doc_bits.specs.Number.{AreBytes}
use Rattle.sprm_table.specs.Sprm.{Prl}
use Rattle.prop_map.specs.Settings.{Properties}
use Rattle.prop_map.specs.Formed.{IsPropertyMap}
use Rattle.edit_script.specs.Values.{properties_of}
use Rattle.text_codes.specs.Digits.{word_text}
use Rattle.json_values.specs.Digits.{bytes_json}
use Rattle.json_values.specs.Plain.{IsPlain, HasTexts, HasKeysInOrder}

-- a member for each entry
abbrev pub properties_members : List Prl → Members
properties_members [] = no_members
properties_members (prl ∷ more) = member (word_text prl.0) (bytes_json prl.1) (properties_members more)

-- the value that represents properties
abbrev pub properties_json : Properties → Data
properties_json set = object (properties_members (entries set))

-- the text of an entry, behind a comma where one is before it
abbrev pub entry_text : Bool → Prl → List ℕ
entry_text later prl = comma_if later ++ (quoted (word_text prl.0) ++ 58 ∷ compact_text (bytes_json prl.1))

-- a code of 16 bits and a value of bytes
pub record IsSpeltEntry (prl : Prl) : Type 0 where
  pub code : prl.0 < 2 ^ 16
  pub value : AreBytes prl.1

-- each entry of the properties is such
abbrev pub AreSpelt : Properties → Type 0
AreSpelt set = All IsSpeltEntry (entries set)

-- properties have one value that represents them, whose text is read back; other values whose keys ascend represent
-- none; the properties that a place may hold are such
pub record PropertiesAreOne : Type 0 where
  pub back : (set : Properties) → AreSpelt set → properties_of (properties_json set) ≡ Some set
  pub one : (value : Data) (set : Properties) → HasKeysInOrder value → properties_of value ≡ Some set →
      AreSpelt set × (value ≡ properties_json set)
  pub plain : (set : Properties) → AreSpelt set → IsPlain (properties_json set)
  pub texts : (set : Properties) → AreSpelt set → HasTexts (properties_json set)
  pub formed : (groups : ℕ) (set : Properties) → IsPropertyMap groups set → AreSpelt set
