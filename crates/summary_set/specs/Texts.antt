-- Texts of a property set, and the three that are asked for.
use Rattle.std.specs.Prelude.{◌≡◌, ℕ, ◌+◌, ◌&&◌, ◌==◌, if◌then◌else◌, nat_le, List, length, find, Option, Some, None}
use Rattle.std.specs.Prelude.{slice_range, option_and_then}
use Rattle.std.specs.List.{before_first}
use Rattle.doc_bits.specs.Number.{u16_at, u32_at}
use Rattle.summary_set.specs.declared.summary.Fields.{Fields}
use Rattle.summary_set.specs.PropertySet.{pairs_in_stream}
use Rattle.summary_set.specs.Values.{pair_value_bytes}

-- [MS-OLEPS] TypedPropertyValue with a CodePageString: the type 0x1E (VT_LPSTR), a count at 4 and so many bytes.
-- Profile: the upper half of the type is not read, and the text ends before its first zero. Other values are no text
abbrev pub text_of_value : List ℕ → Option (List ℕ)
text_of_value value =
    if (u16_at value 0 == 0x1E) && nat_le (8 + u32_at value 4) (length value)
    then Some (before_first (λ byte. byte == 0) (slice_range value 8 (8 + u32_at value 4)))
    else None

-- the text of the property with an id
abbrev pub text_property : List ℕ → ℕ → Option (List ℕ)
text_property b id =
    option_and_then (λ pair. text_of_value (pair_value_bytes b pair)) (find (λ pair. pair.id == id) (pairs_in_stream b))

-- [MS-OLEPS] TypedPropertyValue with a number of 16 bits: the type 2 (VT_I2), and the number at 4. Profile: the upper
-- half of the type is not read. Other values are no code page
abbrev pub page_of_value : List ℕ → Option ℕ
page_of_value value = if nat_le 6 (length value) && (u16_at value 0 == 2) then Some (u16_at value 4) else None

-- the code page of the texts: the property 1
abbrev pub page_property : List ℕ → Option ℕ
page_property b = option_and_then (λ pair. page_of_value (pair_value_bytes b pair)) (find (λ pair. pair.id == 1)
    (pairs_in_stream b))

-- [MS-OLEPS] PIDSI_TITLE, PIDSI_SUBJECT, PIDSI_AUTHOR
pub record AreFieldsOf (b : List ℕ) (fields : Fields) : Type 0 where
  pub title : fields.title ≡ text_property b 2
  pub subject : fields.subject ≡ text_property b 3
  pub author : fields.author ≡ text_property b 4
