-- What the written stream has.
use Rattle.std.specs.Prelude.{◌≡◌, ◌≢◌, ℕ, ◌^◌, ◌<◌, ◌≤◌, List, length, map, slice_get, Some}
use Rattle.doc_bits.specs.Number.{AreBytes}
use Rattle.summary_set.specs.declared.values.Property.{Property}
use Rattle.summary_set.specs.Form.{IsPropertySet}
use Rattle.summary_set.specs.Values.{property_values}
use Rattle.summary_set.specs.Written.{KeptBytes, kept_bytes, padded_property, retitled, written_size, written_set}
use Rattle.summary_set.specs.Written.{retitled_stream}

-- kept bytes and properties that a set can have: no value is empty, the ids differ, and all together have 32 bits
pub record AreWritable (kept : KeptBytes) (values : List Property) : Type 0 where
  pub system : length kept.system ≡ 22
  pub format : length kept.format ≡ 16
  pub ids : (i : ℕ) (property : Property) → slice_get values i ≡ Some property → property.id < 2 ^ 32
  pub some : (i : ℕ) (property : Property) → slice_get values i ≡ Some property → 1 ≤ length property.value
  pub apart : (i j : ℕ) (property later : Property) → i < j → slice_get values i ≡ Some property → slice_get values j ≡
      Some later → property.id ≢ later.id
  pub fits : written_size values < 2 ^ 32

-- the bytes are a set of these kept bytes and these properties
pub record HoldsSet (b : List ℕ) (kept : KeptBytes) (values : List Property) : Type 0 where
  pub formed : IsPropertySet b
  pub kept_same : kept_bytes b ≡ kept
  pub values_same : property_values b ≡ values

-- a written set is read back, with its values padded
abbrev pub WrittenSetIsReadBack : Type 0
WrittenSetIsReadBack =
    (kept : KeptBytes) (values : List Property) → AreWritable kept values →
    HoldsSet (written_set kept values) kept (map padded_property values)

-- the new stream has the kept bytes and the properties of the old one, padded, with this title
abbrev pub HasSameProperties : List ℕ → List ℕ → List ℕ → Type 0
HasSameProperties old new title =
    HoldsSet new (kept_bytes old) (map padded_property (retitled (property_values old) title))

-- a stream and a title to which `with_title` may be asked
pub record IsAsked (b title : List ℕ) : Type 0 where
  pub bytes : AreBytes b
  pub formed : IsPropertySet b
  pub short : length b ≤ 7143936
  pub short_title : length title ≤ 255

-- a stream with another title keeps all other properties
abbrev pub PropertiesAreKept : Type 0
PropertiesAreKept = (b title : List ℕ) → IsAsked b title → HasSameProperties b (retitled_stream b title) title

-- the same title once more changes no byte
abbrev pub RetitledTwiceIsOnce : Type 0
RetitledTwiceIsOnce =
    (b title : List ℕ) → IsAsked b title →
    retitled_stream (retitled_stream b title) title ≡ retitled_stream b title
