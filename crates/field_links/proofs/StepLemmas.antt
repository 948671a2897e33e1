-- What is left of an instruction, of a scheme and of a URL.
use Rattle.std.proofs.Common.{◌≡◌, ℕ, ◌+◌, ◌/◌, ◌%◌, ◌<◌, ◌≤◌, ◌==◌, true, false, List, [], ◌∷◌, ◌++◌, length}
use Rattle.std.proofs.Common.{drop, get_or, refl, sym, ap, arith}
use Rattle.std.proofs.Common.{add-one, drop-cons}
use Rattle.std.specs.Prelude.{encode_utf8, if◌then◌else◌}
use Rattle.std.specs.List.{flat_map}
use Rattle.std.proofs.lemmas.List.{append-nil}
use Rattle.std.proofs.lemmas.Str.{len_utf8_bounds, length-encode}
use Rattle.field_links.specs.declared.instruction.Role.{Role}
use Rattle.field_links.specs.declared.instruction.Part.{Part}
use Rattle.field_links.specs.declared.link_text.Manner.{Manner}
use Rattle.field_links.specs.declared.link_text.Manner.TheVariants.{Percent, Anchor}
use Rattle.field_links.specs.Words.{Word}
use Rattle.field_links.specs.Instructions.{is_part, part_behind, role_behind}
use Rattle.field_links.specs.Characters.{characters}
use Rattle.field_links.specs.Urls.{anchor_character, begins, fragment_text, hex_text, is_anchor_character, is_nil}
use Rattle.field_links.specs.Urls.{is_url_character, lower_case_unit, percent_byte, upper_hex_digit}
use Rattle.field_links.specs.Kept.{character_in, encoded_units}

-- ---- the parts of an instruction

pub part_found : (part : Part) (before role : Role) (word : Word) (words rest : List Word) → words ≡ word ∷ rest →
    role ≡ role_behind before word → is_part part role ≡ true → part_behind part before words ≡ word.units
part_found part before role word words rest is now e = rw (is, ← now, e) refl

pub part_more : (part : Part) (before role : Role) (word : Word) (words rest : List Word) → words ≡ word ∷ rest →
    role ≡ role_behind before word → is_part part role ≡ false → part_behind part before words ≡ part_behind part role rest
part_more part before role word words rest is now e = rw (is, ← now, e) refl

pub part_none : (part : Part) (before : Role) (words : List Word) → words ≡ [] → part_behind part before words ≡ []
part_none part before words is = rw is refl

-- ---- a scheme

pub drop_first : (xs : List ℕ) (i : ℕ) → i < length xs → drop i xs ≡ get_or xs i 0 ∷ drop (i + 1) xs
drop_first xs i within = rw (add-one, drop-cons xs i 0)

pub begins_never : (letters : List ℕ) (i : ℕ) (units : List ℕ) → i < length letters → units ≡ [] →
    begins (drop i letters) units ≡ false
begins_never letters i units within none = rw (drop_first letters i within, none) refl

pub begins_not : (letters : List ℕ) (i unit : ℕ) (units more : List ℕ) → i < length letters → units ≡ unit ∷ more →
    (lower_case_unit unit == get_or letters i 0) ≡ false → begins (drop i letters) units ≡ false
begins_not letters i unit units more within is e = rw (drop_first letters i within, is, e) refl

pub begins_more : (letters : List ℕ) (i unit : ℕ) (units more : List ℕ) → i < length letters → units ≡ unit ∷ more →
    (lower_case_unit unit == get_or letters i 0) ≡ true → begins (drop i letters) units ≡ begins (drop (i + 1) letters)
    more
begins_more letters i unit units more within is e = rw (drop_first letters i within, is, e) refl

-- ---- what waits

pub length-percent_byte : (byte : ℕ) → length (percent_byte byte) ≤ 3
length-percent_byte byte =
    elim (is_url_character byte) as (λ b. length (if b then byte ∷ [] else 37 ∷ upper_hex_digit (byte / 16 % 16) ∷
    upper_hex_digit (byte % 16) ∷ []) ≤ 3) [
      | true ↦ omega arith
      | false ↦ omega arith
    ]

some_byte : (byte : ℕ) (more : List ℕ) → percent_byte byte ++ more ≡ [] → ⊥
some_byte byte more =
    elim (is_url_character byte) as (λ b. (if b then byte ∷ [] else 37 ∷ upper_hex_digit (byte / 16 % 16) ∷ upper_hex_digit
    (byte % 16) ∷ []) ++ more ≡ [] → ⊥) [
      | true ↦ λ e. absurd (cc (e))
      | false ↦ λ e. absurd (cc (e))
    ]

some_bytes : (bytes : List ℕ) → 0 < length bytes → flat_map percent_byte bytes ≡ [] → ⊥
some_bytes [] some e = absurd (omega (arith, some))
some_bytes (byte ∷ bytes) some e = some_byte byte (flat_map percent_byte bytes) e

some_anchor : (code : ℕ) → anchor_character code ≡ [] → ⊥
some_anchor code =
    elim (is_anchor_character code) as (λ b. (if b then code ∷ [] else 46 ∷ (hex_text code ++ 46 ∷ [])) ≡ [] → ⊥) [
      | true ↦ λ e. absurd (cc (e))
      | false ↦ λ e. absurd (cc (e))
    ]

-- each character becomes some
pub some_character : (manner : Manner) (code : ℕ) → character_in manner code ≡ [] → ⊥
some_character Percent code e =
    let long = length-encode code in let bounds = len_utf8_bounds code in let least = bounds.0 in
    some_bytes (encode_utf8 code) (omega (arith, long, least)) e
some_character Anchor code e = some_anchor code e

-- a character that waits, and the rest of its word
pub text_more : (manner : Manner) (units more : List ℕ) (code : ℕ) → characters units ≡ code ∷ characters more →
    character_in manner code ++ encoded_units manner more ≡ encoded_units manner units
text_more manner units more code is = sym (ap (λ cs. flat_map (character_in manner) cs) is)

-- the location behind a number sign
pub fragment_begins : (waits pushed : List ℕ) (manner : Manner) (word fragment end : List ℕ) → waits ≡ [] →
    pushed ≡ 35 ∷ waits → word ≡ [] → end ≡ [] → is_nil fragment ≡ false →
    pushed ++ (encoded_units Percent fragment ++ fragment_text end) ≡ waits ++ (encoded_units manner word ++
    fragment_text fragment)
unfolding characters
fragment_begins waits pushed manner word fragment end none is ended last some =
    rw (is, none, ended, last, some, append-nil) refl

-- nothing is left
pub all_taken : (waits : List ℕ) (manner : Manner) (word fragment : List ℕ) → waits ≡ [] → word ≡ [] →
    is_nil fragment ≡ true → waits ++ (encoded_units manner word ++ fragment_text fragment) ≡ []
unfolding characters
all_taken waits manner word fragment none ended last = rw (none, ended, last) refl
