-- The text of a plain value is UTF-8, so it is JSON.
use Rattle.std.proofs.Common.{[], ◌∷◌, ◌++◌, Bool, true, false, refl}
use Rattle.std.specs.Str.{IsUtf8}
use Rattle.std.proofs.lemmas.Fmt.{IsAscii-decimal}
use Rattle.std.proofs.lemmas.Str.{IsUtf8-append, IsUtf8-nil, IsUtf8-from_ascii}
use Rattle.json.specs.Print.{quoted}
use Rattle.json.proofs.Printed.Utf8.{IsUtf8-are_ascii, IsUtf8-quoted, IsUtf8-boolean}
use Rattle.serde_json.specs.Data.{Num, unsigned, negative, float, Data, null, boolean, number, string, array, object}
use Rattle.serde_json.specs.Data.{Items, no_items, item, Members, no_members, member}
use Rattle.serde_json.specs.Written.{number_text, comma_if, compact_text, items_text, members_text}
use Rattle.json_values.specs.Plain.{IsPlainNumber, IsPlain, ArePlainItems, ArePlainMembers, HasTexts, ItemsHaveTexts}
use Rattle.json_values.specs.Plain.{MembersHaveTexts, PlainTextsAreJson}
use Rattle.json_values.proofs.PlainLemmas.{plain_read}

number_utf8 : (n : Num) → IsPlainNumber n → IsUtf8 (number_text n)
number_utf8 (unsigned n) plain = IsUtf8-from_ascii (number_text (unsigned n)) (IsAscii-decimal n plain)
number_utf8 (negative z) plain = absurd plain
number_utf8 (float x) plain = absurd plain

comma_utf8 : (later : Bool) → IsUtf8 (comma_if later)
comma_utf8 true = IsUtf8-are_ascii (44 ∷ []) refl
comma_utf8 false = IsUtf8-nil

mutual
  value_utf8 : (d : Data) → IsPlain d → HasTexts d → IsUtf8 (compact_text d)
  value_utf8 null plain texts = IsUtf8-are_ascii (compact_text null) refl
  value_utf8 (boolean b) plain texts = IsUtf8-boolean b
  value_utf8 (number n) plain texts = number_utf8 n plain
  value_utf8 (string s) plain texts = IsUtf8-quoted s texts
  value_utf8 (array ds) plain texts =
      IsUtf8-append (91 ∷ []) (items_text false ds) (IsUtf8-are_ascii (91 ∷ []) refl) (items_utf8 false ds plain texts)
  value_utf8 (object ms) plain texts =
      IsUtf8-append (123 ∷ []) (members_text false ms) (IsUtf8-are_ascii (123 ∷ []) refl) (members_utf8 false ms
      plain.0 texts)

  items_utf8 : (later : Bool) (ds : Items) → ArePlainItems ds → ItemsHaveTexts ds → IsUtf8 (items_text later ds)
  items_utf8 later no_items plain texts = IsUtf8-are_ascii (93 ∷ []) refl
  items_utf8 later (item d ds) plain texts =
      IsUtf8-append (comma_if later) (compact_text d ++ items_text true ds) (comma_utf8 later) (IsUtf8-append
      (compact_text d) (items_text true ds) (value_utf8 d plain.0 texts.0) (items_utf8 true ds plain.1 texts.1))

  members_utf8 : (later : Bool) (ms : Members) → ArePlainMembers ms → MembersHaveTexts ms → IsUtf8 (members_text later
      ms)
  members_utf8 later no_members plain texts = IsUtf8-are_ascii (125 ∷ []) refl
  members_utf8 later (member key d ms) plain texts =
      let rest = compact_text d ++ members_text true ms in
      IsUtf8-append (comma_if later) (quoted key ++ 58 ∷ rest) (comma_utf8 later) (IsUtf8-append (quoted key) (58 ∷
      rest) (IsUtf8-quoted key texts.0) (IsUtf8-append (58 ∷ []) rest (IsUtf8-are_ascii (58 ∷ []) refl) (IsUtf8-append
      (compact_text d) (members_text true ms) (value_utf8 d plain.0 texts.1.0) (members_utf8 true ms plain.1
      texts.1.1))))

pub plain_json : PlainTextsAreJson
plain_json value plain texts shallow = (value_utf8 value plain texts, plain_read value plain shallow)
