-- Single fields are read as what they were written for, and from no other value.
use Rattle.std.proofs.Common.{◌≡◌, ◌<◌, ℕ, Bool, true, false, Some, None}
use Rattle.std.proofs.Common.{refl, ap, subst}
use Rattle.std.specs.Prelude.{nat_lt, if◌then◌else◌}
use Rattle.std.proofs.lemmas.Bool.{lt-ltb, ltb-true}
use Rattle.std.proofs.lemmas.Option.{none-some, same_Some}
use Rattle.serde_json.specs.Data.{unsigned, negative, float, Data, null, boolean, number, string, array, object}
use Rattle.doc_bits.specs.Number.{AreBytes}
use Rattle.edit_script.specs.Values.{whole_number, properties_of, bytes_of}
use Rattle.json_values.specs.Digits.{bytes_json, units_json, hex_units_of, AreUnits}
use Rattle.json_values.specs.Rows.{number_json}
use Rattle.json_values.specs.Settings.{properties_json, AreSpelt}
use Rattle.json_values.proofs.Public.{digits_one, properties_one}
use Rattle.json_doc.proofs.RowLemmas.{AreOne}

-- ---- numbers

below_by : (b : Bool) (limit n m : ℕ) → nat_lt n limit ≡ b → (if b then Some n else None) ≡ Some m →
    (n < limit) × (n ≡ m)
below_by true limit n m less e = (ltb-true n limit less, same_Some n m e)
below_by false limit n m less e = absurd (none-some m e)

pub number_is : (limit : ℕ) (value : Data) (m : ℕ) → whole_number limit value ≡ Some m →
    (m < limit) × (value ≡ number_json m)
number_is limit null m e = absurd (none-some m e)
number_is limit (boolean b) m e = absurd (none-some m e)
number_is limit (string s) m e = absurd (none-some m e)
number_is limit (array ds) m e = absurd (none-some m e)
number_is limit (object ms) m e = absurd (none-some m e)
number_is limit (number (negative z)) m e = absurd (none-some m e)
number_is limit (number (float x)) m e = absurd (none-some m e)
number_is limit (number (unsigned n)) m e =
    let k = below_by (nat_lt n limit) limit n m refl e in
    (subst (λ x. x < limit) k.1 k.0, ap number_json k.1)

number_back : (limit m : ℕ) → m < limit → whole_number limit (number_json m) ≡ Some m
number_back limit m less = ap (λ b. if b then Some m else None) (lt-ltb m limit less)

pub numbers_one : (limit : ℕ) → AreOne (whole_number limit) number_json (λ n. n < limit)
numbers_one limit = record { back = number_back limit; one = λ value m order e. number_is limit value m e }

-- ---- bytes, units and properties

pub bytes_are_one : AreOne bytes_of bytes_json AreBytes
bytes_are_one = record { back = digits_one.bytes_back; one = λ value x order e. digits_one.bytes_one value x e }

pub units_are_one : AreOne hex_units_of units_json AreUnits
units_are_one = record { back = digits_one.units_back; one = λ value x order e. digits_one.units_one value x e }

pub properties_are_one : AreOne properties_of properties_json AreSpelt
properties_are_one = record { back = properties_one.back; one = properties_one.one }
