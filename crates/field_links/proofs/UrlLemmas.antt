-- What characters a URL has, and where it leads.
use Rattle.std.proofs.Common.{◌≡◌, ℕ, ◌+◌, ◌/◌, ◌%◌, ◌<◌, ◌==◌, ◌&&◌, ◌||◌, nat_le, Bool, true, false, not}
use Rattle.std.proofs.Common.{List, [], ◌∷◌, ◌++◌, ◌⊎◌, inl, inr, refl, sym, ap, subst, ◌∙◌, arith}
use Rattle.std.specs.Prelude.{Some, None, codes, encode_utf8, if◌then◌else◌}
use Rattle.std.specs.List.{flat_map, list_all, list_any}
use Rattle.std.proofs.lemmas.Bool.{agree_below_at, and_cases, and_parts, eqb-true, leb-false, leb-true, lt-leb}
use Rattle.std.proofs.lemmas.Bool.{lt-ltb, not-false, or_cases}
use Rattle.std.proofs.lemmas.List.Folds.{list_all-append}
use Rattle.std.proofs.lemmas.Str.{encode_ascii}
use Rattle.text_codes.specs.Shown.{hex_digit}
use Rattle.field_links.specs.Characters.{characters}
use Rattle.field_links.specs.Urls.{anchor_character, anchor_name, begins, fragment_text, has_scheme, hex_text}
use Rattle.field_links.specs.Urls.{is_alphanumeric, is_anchor_character, is_code_between, is_url_character, local_url}
use Rattle.field_links.specs.Urls.{lower_case_unit}
use Rattle.field_links.specs.Urls.{percent_byte, percent_character, percent_text, upper_hex_digit, url_of}
use Rattle.field_links.specs.Laws.{IsLocalUrl, IsSchemeUrl, UrlsAreAllowed}
use Rattle.doc_bits.proofs.Public.{and_true, or_first, or_second}

-- ---- characters

-- each part of a text has these characters, and so has the text
all_in : (p : ℕ → Bool) (f : ℕ → List ℕ) → ((x : ℕ) → list_all p (f x) ≡ true) → (xs : List ℕ) →
    list_all p (flat_map f xs) ≡ true
all_in p f each [] = refl
all_in p f each (x ∷ xs) =
    list_all-append p (f x) (flat_map f xs)
    ∙ (ap (λ b. b && list_all p (flat_map f xs)) (each x) ∙ all_in p f each xs)

both_all : (p : ℕ → Bool) (xs ys : List ℕ) → list_all p xs ≡ true → list_all p ys ≡ true → list_all p (xs ++ ys) ≡ true
both_all p xs ys e f = list_all-append p xs ys ∙ (ap (λ b. b && list_all p ys) e ∙ f)

hex_allowed : (digit : ℕ) → digit < 16 → is_url_character (upper_hex_digit digit) ≡ true
hex_allowed digit small =
    agree_below_at (λ d. is_url_character (upper_hex_digit d)) (λ d. true) 16 digit refl small

digits_allowed : (high low : ℕ) → high < 16 → low < 16 →
    list_all is_url_character (37 ∷ upper_hex_digit high ∷ upper_hex_digit low ∷ []) ≡ true
digits_allowed high low h l = rw (hex_allowed high h, hex_allowed low l) refl

byte_allowed : (byte : ℕ) → list_all is_url_character (percent_byte byte) ≡ true
byte_allowed byte =
    elim (is_url_character byte) as (λ b. is_url_character byte ≡ b → list_all is_url_character (if b then byte ∷ [] else
    37 ∷ upper_hex_digit (byte / 16 % 16) ∷ upper_hex_digit (byte % 16) ∷ []) ≡ true) [
      | true ↦ λ e. rw e refl
      | false ↦ λ e. digits_allowed (byte / 16 % 16) (byte % 16) (omega arith) (omega arith)
    ] refl

percent_allowed : (units : List ℕ) → list_all is_url_character (percent_text units) ≡ true
percent_allowed units =
    all_in is_url_character percent_character (λ code. all_in is_url_character percent_byte byte_allowed (encode_utf8
    code)) (characters units)

fragment_allowed : (location : List ℕ) → list_all is_url_character (fragment_text location) ≡ true
fragment_allowed [] = refl
fragment_allowed (unit ∷ units) = percent_allowed (unit ∷ units)

-- ---- names of anchors

last_of_four : (a b c d : Bool) → (a || (b || (c || d))) ≡ false → d ≡ false
last_of_four true b c d e = absurd (cc (e))
last_of_four false true c d e = absurd (cc (e))
last_of_four false false true d e = absurd (cc (e))
last_of_four false false false d e = e

-- what is between full stops
pub numbered : (code : ℕ) → is_anchor_character code ≡ false → (code < 160) ⊎ (code ≡ 65533)
numbered code e =
    elim (and_cases (nat_le 160 code) (not (code == 65533)) (last_of_four (is_alphanumeric code) (code == 95) (code ==
    45) (nat_le 160 code && not (code == 65533)) e)) [
      | inl low ↦ inl (leb-false 160 code low)
      | inr same ↦ inr (eqb-true code 65533 (not-false (code == 65533) same))
    ]

low_hex_allowed : (digit : ℕ) → digit < 16 → (is_anchor_character (hex_digit digit) || hex_digit digit == 46) ≡ true
low_hex_allowed digit small =
    agree_below_at (λ d. is_anchor_character (hex_digit d) || hex_digit d == 46) (λ d. true) 16 digit refl small

-- a number below 256 between full stops
pub numbered-low : (code : ℕ) → code < 160 → 46 ∷ (hex_text code ++ 46 ∷ []) ≡ 46 ∷ hex_digit (code / 16) ∷ hex_digit
    (code % 16) ∷ 46 ∷ []
numbered-low code low = rw (lt-ltb code 256 (omega (arith, low))) refl

digits_in_anchor : (high low : ℕ) → high < 16 → low < 16 → list_all (λ code. is_anchor_character code || code == 46) (46 ∷
    hex_digit high ∷ hex_digit low ∷ 46 ∷ []) ≡ true
digits_in_anchor high low h l = rw (low_hex_allowed high h, low_hex_allowed low l) refl

number_allowed : (code : ℕ) → (code < 160) ⊎ (code ≡ 65533) → list_all (λ c. is_anchor_character c || c == 46) (46 ∷
    (hex_text code ++ 46 ∷ [])) ≡ true
number_allowed code (inl low) =
    ap (list_all (λ c. is_anchor_character c || c == 46)) (numbered-low code low)
    ∙ digits_in_anchor (code / 16) (code % 16) (omega (arith, low)) (omega arith)
number_allowed code (inr is) = rw is refl

anchor_allowed : (code : ℕ) → list_all (λ c. is_anchor_character c || c == 46) (anchor_character code) ≡ true
anchor_allowed code =
    elim (is_anchor_character code) as (λ b. is_anchor_character code ≡ b → list_all (λ c. is_anchor_character c || c ==
    46) (if b then code ∷ [] else 46 ∷ (hex_text code ++ 46 ∷ [])) ≡ true) [
      | true ↦ λ e. rw e refl
      | false ↦ λ e. number_allowed code (numbered code e)
    ] refl

name_allowed : (units : List ℕ) → list_all (λ c. is_anchor_character c || c == 46) (anchor_name units) ≡ true
name_allowed units = all_in (λ c. is_anchor_character c || c == 46) anchor_character anchor_allowed (characters units)

-- ---- schemes

-- a unit below the surrogates is a character
characters-low : (unit : ℕ) (units : List ℕ) → unit < 0xD800 → characters (unit ∷ units) ≡ unit ∷ characters units
unfolding characters
characters-low unit [] low = rw (lt-leb 0xD800 unit low) refl
characters-low unit (next ∷ units) low = rw (lt-leb 0xD800 unit low) refl

percent-plain : (unit : ℕ) (units : List ℕ) → unit < 128 → is_url_character unit ≡ true →
    percent_text (unit ∷ units) ≡ unit ∷ percent_text units
percent-plain unit units ascii stays =
    ap (λ cs. flat_map percent_character cs) (characters-low unit units (omega (arith, ascii)))
    ∙ ap (λ bytes. flat_map percent_byte bytes ++ percent_text units) (encode_ascii unit ascii)
    ∙ rw stays refl

abbrev is_scheme_letter : ℕ → Bool
is_scheme_letter code = is_code_between 97 122 code || code == 58

-- a unit that is the letter of a scheme, in any case
record StaysInUrl (unit : ℕ) : Type 0 where
  ascii : unit < 128
  stays : is_url_character unit ≡ true

capital_stays : (code : ℕ) → is_code_between 65 90 code ≡ true → StaysInUrl code
capital_stays code e =
    let ends = and_parts (nat_le 65 code) (nat_le code 90) e in
    let below = leb-true code 90 ends.1 in
    record { ascii = omega (arith, below); stays = rw e refl }

small_is_url : (code : ℕ) → is_code_between 97 122 code ≡ true → is_url_character code ≡ true
small_is_url code e =
    or_first (is_alphanumeric code) (list_any (λ mark. code == mark) (codes "-._~:/?#[]@!$&'*+,;=%"))
    (or_second (is_code_between 65 90 code) (is_code_between 97 122 code || is_code_between 48 57 code)
    (or_first (is_code_between 97 122 code) (is_code_between 48 57 code) e))

small_stays : (code : ℕ) → is_code_between 97 122 code ≡ true → StaysInUrl code
small_stays code e =
    let ends = and_parts (nat_le 97 code) (nat_le code 122) e in
    let below = leb-true code 122 ends.1 in
    record { ascii = omega (arith, below); stays = small_is_url code e }

letter_itself : (code : ℕ) → is_scheme_letter code ≡ true → StaysInUrl code
letter_itself code e = elim (or_cases (is_code_between 97 122 code) (code == 58) e) [
  | inl letter ↦ small_stays code letter
  | inr colon ↦ subst StaysInUrl (sym (eqb-true code 58 colon)) (record { ascii = omega arith; stays = refl })
]

letter_stays : (unit letter : ℕ) → is_scheme_letter letter ≡ true → (lower_case_unit unit == letter) ≡ true → StaysInUrl
    unit
letter_stays unit letter known e =
    elim (is_code_between 65 90 unit) as (λ b. is_code_between 65 90 unit ≡ b → ((if b then unit + 32 else unit) ==
    letter) ≡ true →
    StaysInUrl unit) [
      | true ↦ λ capital _. capital_stays unit capital
      | false ↦ λ _ same. subst StaysInUrl (sym (eqb-true unit letter same)) (letter_itself letter known)
    ] refl e

-- a scheme stays what it is
begins-percent : (scheme address rest : List ℕ) → list_all is_scheme_letter scheme ≡ true → begins scheme address ≡ true →
    begins scheme (percent_text address ++ rest) ≡ true
begins-percent [] address rest known e = refl
begins-percent (letter ∷ scheme) [] rest known e = absurd (cc (e))
begins-percent (letter ∷ scheme) (unit ∷ units) rest known e =
    let letters = and_parts (is_scheme_letter letter) (list_all is_scheme_letter scheme) known in
    let parts = and_parts (lower_case_unit unit == letter) (begins scheme units) e in
    let stays = letter_stays unit letter letters.0 parts.0 in
    let more = begins-percent scheme units rest letters.1 parts.1 in
    ap (λ text. begins (letter ∷ scheme) (text ++ rest)) (percent-plain unit units stays.ascii stays.stays)
    ∙ and_true (lower_case_unit unit == letter) (begins scheme (percent_text units ++ rest)) parts.0 more

-- one of five
any_of_five : (a b c d e : Bool) (v w x y z : Bool) → (a ≡ true → v ≡ true) → (b ≡ true → w ≡ true) → (c ≡ true → x ≡
    true) → (d ≡ true → y ≡ true) → (e ≡ true → z ≡ true) → (a || (b || (c || (d || e)))) ≡ true → (v || (w || (x || (y
    || z)))) ≡ true
any_of_five true b c d e v w x y z one two three four five is = or_first v (w || (x || (y || z))) (one refl)
any_of_five false true c d e v w x y z one two three four five is =
    or_second v (w || (x || (y || z))) (or_first w (x || (y || z)) (two refl))
any_of_five false false true d e v w x y z one two three four five is =
    or_second v (w || (x || (y || z))) (or_second w (x || (y || z)) (or_first x (y || z) (three refl)))
any_of_five false false false true e v w x y z one two three four five is =
    or_second v (w || (x || (y || z))) (or_second w (x || (y || z)) (or_second x (y || z) (or_first y z (four refl))))
any_of_five false false false false e v w x y z one two three four five is =
    or_second v (w || (x || (y || z))) (or_second w (x || (y || z)) (or_second x (y || z) (or_second y z (five is))))

has_scheme-percent : (address rest : List ℕ) → has_scheme address ≡ true → has_scheme (percent_text address ++ rest) ≡ true
has_scheme-percent address rest e =
    let text = percent_text address ++ rest in
    any_of_five (begins (codes "http:") address) (begins (codes "https:") address) (begins (codes "mailto:") address)
    (begins (codes "ftp:") address) (begins (codes "tel:") address) (begins (codes "http:") text) (begins (codes "https:")
    text) (begins (codes "mailto:") text) (begins (codes "ftp:") text) (begins (codes "tel:") text)
    (begins-percent (codes "http:") address rest refl) (begins-percent (codes "https:") address rest refl)
    (begins-percent (codes "mailto:") address rest refl) (begins-percent (codes "ftp:") address rest refl)
    (begins-percent (codes "tel:") address rest refl) e

-- ---- links

scheme_url : (address location : List ℕ) → has_scheme address ≡ true →
    IsSchemeUrl (percent_text address ++ fragment_text location)
scheme_url address location e = record {
  scheme = has_scheme-percent address (fragment_text location) e;
  characters = both_all is_url_character (percent_text address) (fragment_text location) (percent_allowed address)
      (fragment_allowed location);
}

some_same : (one other : List ℕ) → Some one ≡ Some other → one ≡ other
some_same one other e = cc

local : (location url : List ℕ) → local_url location ≡ Some url → IsLocalUrl url
local [] url is = absurd (cc (is))
local (unit ∷ units) url is =
    subst IsLocalUrl (some_same (35 ∷ anchor_name (unit ∷ units)) url is) (record {
      name = anchor_name (unit ∷ units);
      begins = refl;
      characters = name_allowed (unit ∷ units);
    })

by_scheme : (address location url : List ℕ) (has : Bool) → has_scheme address ≡ has →
    (if has then Some (percent_text address ++ fragment_text location) else None) ≡ Some url → IsSchemeUrl url
by_scheme address location url true e is =
    subst IsSchemeUrl (some_same (percent_text address ++ fragment_text location) url is) (scheme_url address location e)
by_scheme address location url false e is = absurd (cc (is))

allowed_by : (address location url : List ℕ) → url_of address location ≡ Some url → IsSchemeUrl url ⊎ IsLocalUrl url
allowed_by [] location url is = inr (local location url is)
allowed_by (unit ∷ units) location url is =
    inl (by_scheme (unit ∷ units) location url (has_scheme (unit ∷ units)) refl is)

pub allowed : UrlsAreAllowed
allowed target url is = allowed_by target.address target.location url is
