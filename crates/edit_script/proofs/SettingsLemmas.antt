-- The properties of an object are what its keys say.
use Rattle.std.proofs.Common.{◌≡◌, ◌⊎◌, inl, inr, ℕ, ◌+◌, ◌-◌, ◌*◌, ◌==◌, ◌<◌, ◌≤◌, Bool, true, false, cond, ◌&&◌}
use Rattle.std.proofs.Common.{List, [], ◌∷◌, Option, Some, None, refl, sym, ap, ◌∙◌, subst, arith}
use Rattle.std.specs.Prelude.{nat_le, if◌then◌else◌, bytes_eq, is_some, IsSome}
use Rattle.std.specs.Option.{option_or, unwrap_or}
use Rattle.std.specs.Ordering.{nat_cmp, eq_by_cmp}
use Rattle.std.specs.Cmp.{nat_cmp_total, unsigned_tied}
use Rattle.std.specs.FinMap.{empty, get, get-empty, insert, get-insert}
use Rattle.std.proofs.lemmas.Bool.{eqb-true, eq-eqb, ne_eqb, leb-true}
use Rattle.std.proofs.lemmas.Slice.Eq.{bytes_eq-Decides}
use Rattle.serde_json.specs.Data.{Data, Members, no_members, member}
use Rattle.prop_map.specs.Settings.{Properties}
use Rattle.edit_script.specs.Json.{◌>>=◌}
use Rattle.edit_script.specs.Hex.{digit_of, byte_of_digits, code_of_digits}
use Rattle.edit_script.specs.Values.{bytes_of, properties_put}
use Rattle.edit_script.specs.Laws.{last_member_value, PropertiesAreAsKeyed}
use Rattle.doc_bits.proofs.Public.{both_true}

-- ---- a code has one key

-- the character is the digit of the number
abbrev IsDigit : ℕ → ℕ → Type 0
IsDigit character number = ((character ≡ 48 + number) × (number < 10)) ⊎ ((character ≡ 87 + number) × (10 ≤ number) ×
    (number < 16))

digit_small : (character number : ℕ) → IsDigit character number → number < 16
digit_small character number (inl d) = omega (arith, d.1)
digit_small character number (inr d) = d.2

digit_one : (one other number : ℕ) → IsDigit one number → IsDigit other number → one ≡ other
digit_one one other number (inl d) (inl e) = d.0 ∙ sym e.0
digit_one one other number (inl d) (inr e) = absurd (omega (arith, d.1, e.1))
digit_one one other number (inr d) (inl e) = absurd (omega (arith, d.1, e.1))
digit_one one other number (inr d) (inr e) = d.0 ∙ sym e.0

digit_by : (figure letter : Bool) (character number : ℕ) → (figure ≡ true → (48 ≤ character) × (character ≤ 57)) →
    (letter ≡ true → (97 ≤ character) × (character ≤ 102)) → (if figure then Some (character - 48) else if letter
    then Some (character - 87) else None) ≡ Some number → IsDigit character number
digit_by true letter character number f l e =
    let is : character - 48 ≡ number = ap (λ o. unwrap_or o 0) e in
    inl (omega (arith, (f refl).0, is), omega (arith, (f refl).0, (f refl).1, is))
digit_by false true character number f l e =
    let is : character - 87 ≡ number = ap (λ o. unwrap_or o 0) e in
    inr (omega (arith, (l refl).0, is), omega (arith, (l refl).0, is), omega (arith, (l refl).0, (l refl).1, is))
digit_by false false character number f l e = absurd (cc (e))

digit_is : (character number : ℕ) → digit_of character ≡ Some number → IsDigit character number
digit_is character number =
    digit_by (nat_le 48 character && nat_le character 57) (nat_le 97 character && nat_le character 102) character number
    (λ e. let k = both_true (nat_le 48 character) (nat_le character 57) e in (
      leb-true 48 character k.0,
      leb-true character
          57 k.1,
    ))
    (λ e. let k = both_true (nat_le 97 character) (nat_le character 102) e in (
      leb-true 97 character k.0,
      leb-true character 102 k.1,
    ))

-- what two steps found
pub steps_found : {A B C : Type 0} (o : Option A) (p : Option B) (f : A → B → Option C) (made : C) →
    (o >>= λ a. p >>= λ b. f a b) ≡ Some made → (a : A) × (b : B) × (o ≡ Some a) × (p ≡ Some b) × (f a b ≡ Some made)
steps_found None p f made e = absurd (cc (e))
steps_found (Some a) None f made e = absurd (cc (e))
steps_found (Some a) (Some b) f made e = (a, b, refl, refl, e)

-- two characters that are the digits of a byte
record IsPair (high low byte : ℕ) : Type 0 where
  upper : ℕ
  lower : ℕ
  first : IsDigit high upper
  second : IsDigit low lower
  value : byte ≡ 16 * upper + lower

pair_is : (high low byte : ℕ) → byte_of_digits high low ≡ Some byte → IsPair high low byte
pair_is high low byte e =
    let k = steps_found (digit_of high) (digit_of low) (λ u l. Some (16 * u + l)) byte e in
    record {
      upper = k.0;
      lower = k.1;
      first = digit_is high k.0 k.2;
      second = digit_is low k.1 k.3;
      value = ap (λ o. unwrap_or o 0) (sym k.4);
    }

byte_small : (high low byte : ℕ) → IsPair high low byte → byte < 256
byte_small high low byte p = omega (arith, digit_small high p.upper p.first, digit_small low p.lower p.second, p.value)

record AreSame (a b c d : ℕ) : Type 0 where
  first : a ≡ c
  second : b ≡ d

pair_one : (a b c d byte : ℕ) → IsPair a b byte → IsPair c d byte → AreSame a b c d
pair_one a b c d byte p q =
    let u : p.upper ≡ q.upper = omega (
      arith,
      digit_small a p.upper p.first,
      digit_small b p.lower p.second,
      p.value,
      digit_small c q.upper q.first,
      digit_small d q.lower q.second,
      q.value,
    ) in
    let l : p.lower ≡ q.lower = omega (arith, u, p.value, q.value) in
    record {
      first = digit_one a c q.upper (subst (IsDigit a) u p.first) q.first;
      second = digit_one b d q.lower
          (subst (IsDigit b) l p.second) q.second;
    }

-- four characters that are the digits of a code
record IsKey (key : List ℕ) (code : ℕ) : Type 0 where
  a : ℕ
  b : ℕ
  c : ℕ
  d : ℕ
  high : ℕ
  low : ℕ
  is : key ≡ a ∷ b ∷ c ∷ d ∷ []
  first : IsPair a b high
  second : IsPair c d low
  value : code ≡ 256 * high + low

key_is : (key : List ℕ) (code : ℕ) → code_of_digits key ≡ Some code → IsKey key code
key_is [] code e = absurd (cc (e))
key_is (a ∷ []) code e = absurd (cc (e))
key_is (a ∷ b ∷ []) code e = absurd (cc (e))
key_is (a ∷ b ∷ c ∷ []) code e = absurd (cc (e))
key_is (a ∷ b ∷ c ∷ d ∷ []) code e =
    let k = steps_found (byte_of_digits a b) (byte_of_digits c d) (λ h l. Some (256 * h + l)) code e in
    record {
      a = a;
      b = b;
      c = c;
      d = d;
      high = k.0;
      low = k.1;
      is = refl;
      first = pair_is a b k.0 k.2;
      second = pair_is c d k.1 k.3;
      value = ap (λ o. unwrap_or o 0) (sym k.4);
    }
key_is (a ∷ b ∷ c ∷ d ∷ e ∷ rest) code f = absurd (cc (f))

key_one : (one other : List ℕ) (code : ℕ) → code_of_digits one ≡ Some code → code_of_digits other ≡ Some code →
    one ≡ other
key_one one other code e f =
    let p = key_is one code e in
    let q = key_is other code f in
    let h : p.high ≡ q.high = omega (
      arith,
      byte_small p.c p.d p.low p.second,
      byte_small q.c q.d q.low q.second,
      p.value,
      q.value,
    ) in
    let l : p.low ≡ q.low = omega (arith, h, p.value, q.value) in
    let front = pair_one p.a p.b q.a q.b q.high (subst (IsPair p.a p.b) h p.first) q.first in
    let back = pair_one p.c p.d q.c q.d q.low (subst (IsPair p.c p.d) l p.second) q.second in
    p.is ∙ (λ i. front.first i ∷ front.second i ∷ back.first i ∷ back.second i ∷ []) ∙ sym q.is

-- ---- what a property leaves in a map

tied : (code other : ℕ) (same : Bool) → eq_by_cmp nat_cmp code other ≡ same → (set : Properties) (bytes : List ℕ) →
    get (insert set other bytes) code ≡ cond same (Some bytes) (get set code)
tied code other same e set bytes = get-insert nat_cmp_total set other bytes code ∙ ap (λ b. cond b (Some bytes)
    (get set code)) e

get_same : (set : Properties) (code other : ℕ) (bytes : List ℕ) → code ≡ other → get (insert set other bytes) code ≡
    Some bytes
get_same set code other bytes e = tied code other true (unsigned_tied code other ∙ eq-eqb code other e) set bytes

get_other : (set : Properties) (code other : ℕ) (bytes : List ℕ) → (code ≡ other → ⊥) → get (insert set other bytes)
    code ≡ get set code
get_other set code other bytes apart = tied code other false (unsigned_tied code other ∙ ne_eqb code other apart) set
    bytes

-- ---- said

abbrev Says : Option Data → Option (List ℕ) → Option (List ℕ) → Type 0
Says None made old = made ≡ old
Says (Some value) made old = (made ≡ bytes_of value) × IsSome (bytes_of value)

says_by : (later : Option Data) (same : Bool) (value : Data) (made after old : Option (List ℕ)) → Says later made
    after → (same ≡ true → (after ≡ bytes_of value) × IsSome (bytes_of value)) → (same ≡ false → after ≡ old) →
    Says (option_or later (if same then Some value else None)) made old
says_by (Some v) same value made after old s t f = s
says_by None true value made after old s t f = (s ∙ (t refl).0, (t refl).1)
says_by None false value made after old s t f = s ∙ f refl

found_is_some : (o : Option (List ℕ)) (bytes : List ℕ) → o ≡ Some bytes → IsSome o
found_is_some o bytes e = ap is_some e

code_is : (one other : List ℕ) (c d : ℕ) → one ≡ other → code_of_digits one ≡ Some c → code_of_digits other ≡ Some d →
    c ≡ d
code_is one other c d same e f = ap (λ o. unwrap_or o 0) (sym e ∙ ap code_of_digits same ∙ f)

put_says : (members : Members) (set made : Properties) (key : List ℕ) (code : ℕ) → code_of_digits key ≡ Some code →
    properties_put members set ≡ Some made → Says (last_member_value key members) (get made code) (get set code)
put_says no_members set made key code is e = ap (λ (o : Option Properties). get (unwrap_or o set) code) (sym e)
put_says (member name value more) set made key code is e =
    let k = steps_found (code_of_digits name) (bytes_of value) (λ c b. properties_put more (insert set c b)) made e in
    let later = put_says more (insert set k.0 k.1) made key code is k.4 in
    says_by (last_member_value key more) (bytes_eq key name) value (get made code) (get (insert set k.0 k.1) code)
    (get set code) later
    (λ same. (
      get_same set code k.0 k.1 (code_is key name code k.0 ((bytes_eq-Decides key name).0 same) is k.2) ∙ sym
          k.3,
      found_is_some (bytes_of value) k.1 k.3,
    ))
    (λ differs. get_other set code k.0 k.1 (λ same. absurd (cc (
      differs,
      (bytes_eq-Decides key name).1 (key_one key
          name code is (k.2 ∙ ap Some (sym same))),
    ))))

said_by : (last : Option Data) (made : Option (List ℕ)) → Says last made None → made ≡ (last >>= bytes_of)
said_by None made s = s
said_by (Some value) made s = s.0

-- ---- keyed

abbrev HasKey : ℕ → Type 0
HasKey code = (key : List ℕ) × (code_of_digits key ≡ Some code)

keyed_by : (same : Bool) (code : ℕ) (bytes b : List ℕ) (old : Option (List ℕ)) → (same ≡ true → HasKey code) →
    cond same (Some b) old ≡ Some bytes → HasKey code ⊎ (old ≡ Some bytes)
keyed_by true code bytes b old has e = inl (has refl)
keyed_by false code bytes b old has e = inr e

keyed_more : (set : Properties) (name : List ℕ) (other : ℕ) (b : List ℕ) (code : ℕ) (bytes : List ℕ) →
    code_of_digits name ≡ Some other → HasKey code ⊎ (get (insert set other b) code ≡ Some bytes) →
    HasKey code ⊎ (get set code ≡ Some bytes)
keyed_more set name other b code bytes is (inl has) = inl has
keyed_more set name other b code bytes is (inr e) =
    keyed_by (code == other) code bytes b (get set code) (λ same. (
      name,
      is ∙ ap Some (sym (eqb-true code other same)),
    )) (sym (tied code other (code == other) (unsigned_tied code
    other) set b) ∙ e)

put_keyed : (members : Members) (set made : Properties) (code : ℕ) (bytes : List ℕ) → properties_put members set ≡ Some
    made → get made code ≡ Some bytes → HasKey code ⊎ (get set code ≡ Some bytes)
put_keyed no_members set made code bytes e is = inr (ap (λ (o : Option Properties). get (unwrap_or o set) code) e ∙ is)
put_keyed (member name value more) set made code bytes e is =
    let k = steps_found (code_of_digits name) (bytes_of value) (λ c b. properties_put more (insert set c b)) made e in
    keyed_more set name k.0 k.1 code bytes k.2 (put_keyed more (insert set k.0 k.1) made code bytes k.4 is)

keyed_end : (code : ℕ) (bytes : List ℕ) → HasKey code ⊎ (get {R = nat_cmp} empty code ≡ Some bytes) → HasKey code
keyed_end code bytes (inl has) = has
keyed_end code bytes (inr e) = absurd (cc (get-empty {X = List ℕ} nat_cmp code, e))

-- ---- only

only_by : (later : Option Data) (same : Bool) (head value : Data) (P : Data → Type 0) → (later ≡ Some value →
    P value) → (same ≡ true → P head) → option_or later (if same then Some head else None) ≡ Some value → P value
only_by (Some v) same head value P l s e = l e
only_by None true head value P l s e = subst P (ap (λ o. unwrap_or o head) e) (s refl)
only_by None false head value P l s e = absurd (cc (e))

put_only : (members : Members) (set made : Properties) (key : List ℕ) (value : Data) → properties_put members set ≡ Some
    made → last_member_value key members ≡ Some value → IsSome (code_of_digits key) × IsSome (bytes_of value)
put_only no_members set made key value e is = absurd (cc (is))
put_only (member name head more) set made key value e is =
    let k = steps_found (code_of_digits name) (bytes_of head) (λ c b. properties_put more (insert set c b)) made e in
    only_by (last_member_value key more) (bytes_eq key name) head value (λ v. IsSome (code_of_digits key) × IsSome
    (bytes_of v))
    (λ later. put_only more (insert set k.0 k.1) made key value k.4 later)
    (λ same. (
      ap (λ n. is_some (code_of_digits n)) ((bytes_eq-Decides key name).0 same) ∙ ap is_some k.2,
      ap is_some k.3,
    ))
    is

pub properties_are : PropertiesAreAsKeyed
properties_are members set e = record {
  said = λ key code is. said_by (last_member_value key members) (get set code) (subst (Says (last_member_value key
      members)
      (get set code)) (get-empty {X = List ℕ} nat_cmp code) (put_says members empty set key code is e));
  keyed = λ code bytes is. keyed_end code bytes (put_keyed members empty set code bytes e is);
  only = λ key value is. put_only members empty set key value e is;
}
