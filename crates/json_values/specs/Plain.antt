-- Values that have a text which is read back as they are: their numbers are whole and below 2 ^ 64, and the keys of
-- their objects ascend.
use Rattle.std.specs.Prelude.{◌≡◌, ◌≤◌, ◌<◌, ◌^◌, ℕ, List, Some, ⊤, IsUtf8}
use Rattle.std.specs.Ordering.{nat_cmp}
use Rattle.std.specs.declared.cmp.Ordering.TheVariants.{Less}
use Rattle.std.specs.Cmp.Lexicographic.{slice_cmp}
use Rattle.serde_json.specs.Data.{Num, unsigned, negative, float, Data, null, boolean, number, string, array, object}
use Rattle.serde_json.specs.Data.{Items, no_items, item, Members, no_members, member, depth}
use Rattle.serde_json.specs.Read.{read, max_depth}
use Rattle.serde_json.specs.Written.{compact_text}
use Rattle.edit_script.specs.Json.{IsJson}

-- the key is below that of each member, byte by byte
abbrev pub IsBelow : List ℕ → Members → Type 0
IsBelow key no_members = ⊤
IsBelow key (member name value more) = (slice_cmp nat_cmp key name ≡ Less) × IsBelow key more

-- the keys of the members ascend
abbrev pub KeysAscend : Members → Type 0
KeysAscend no_members = ⊤
KeysAscend (member key value more) = IsBelow key more × KeysAscend more

-- the number is whole and fits 64 bits
abbrev pub IsPlainNumber : Num → Type 0
IsPlainNumber (unsigned n) = n < 2 ^ 64
IsPlainNumber (negative z) = ⊥
IsPlainNumber (float x) = ⊥

abbrev mutual
  -- its numbers are such, and the keys of each object in it ascend
  pub IsPlain : Data → Type 0
  IsPlain null = ⊤
  IsPlain (boolean b) = ⊤
  IsPlain (number n) = IsPlainNumber n
  IsPlain (string s) = ⊤
  IsPlain (array ds) = ArePlainItems ds
  IsPlain (object ms) = ArePlainMembers ms × KeysAscend ms

  pub ArePlainItems : Items → Type 0
  ArePlainItems no_items = ⊤
  ArePlainItems (item d ds) = IsPlain d × ArePlainItems ds

  pub ArePlainMembers : Members → Type 0
  ArePlainMembers no_members = ⊤
  ArePlainMembers (member key d ms) = IsPlain d × ArePlainMembers ms

-- the compact text of a plain value of at most 127 levels is read as the value
abbrev pub PlainValuesAreRead : Type 0
PlainValuesAreRead = (value : Data) → IsPlain value → depth value ≤ max_depth → read (compact_text value) ≡ Some value

abbrev mutual
  -- each string in the value and each key is UTF-8
  pub HasTexts : Data → Type 0
  HasTexts null = ⊤
  HasTexts (boolean b) = ⊤
  HasTexts (number n) = ⊤
  HasTexts (string s) = IsUtf8 s
  HasTexts (array ds) = ItemsHaveTexts ds
  HasTexts (object ms) = MembersHaveTexts ms

  pub ItemsHaveTexts : Items → Type 0
  ItemsHaveTexts no_items = ⊤
  ItemsHaveTexts (item d ds) = HasTexts d × ItemsHaveTexts ds

  pub MembersHaveTexts : Members → Type 0
  MembersHaveTexts no_members = ⊤
  MembersHaveTexts (member key d ms) = IsUtf8 key × (HasTexts d × MembersHaveTexts ms)

-- the compact text of such a value is its JSON
abbrev pub PlainTextsAreJson : Type 0
PlainTextsAreJson = (value : Data) → IsPlain value → HasTexts value → depth value ≤ max_depth →
    IsJson (compact_text value) value

abbrev mutual
  -- each object in the value has each key once, in ascending order
  pub HasKeysInOrder : Data → Type 0
  HasKeysInOrder null = ⊤
  HasKeysInOrder (boolean b) = ⊤
  HasKeysInOrder (number n) = ⊤
  HasKeysInOrder (string s) = ⊤
  HasKeysInOrder (array ds) = ItemsHaveKeysInOrder ds
  HasKeysInOrder (object ms) = MembersHaveKeysInOrder ms × KeysAscend ms

  pub ItemsHaveKeysInOrder : Items → Type 0
  ItemsHaveKeysInOrder no_items = ⊤
  ItemsHaveKeysInOrder (item d ds) = HasKeysInOrder d × ItemsHaveKeysInOrder ds

  pub MembersHaveKeysInOrder : Members → Type 0
  MembersHaveKeysInOrder no_members = ⊤
  MembersHaveKeysInOrder (member key d ms) = HasKeysInOrder d × MembersHaveKeysInOrder ms

-- what is read of a text has its keys in order
abbrev pub ReadKeysAscend : Type 0
ReadKeysAscend = (text : List ℕ) (value : Data) → read text ≡ Some value → HasKeysInOrder value
