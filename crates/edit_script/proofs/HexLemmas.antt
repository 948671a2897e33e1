-- Texts of digits, two digits a step.
use Rattle.std.proofs.Common.{◌≡◌, ℕ, ◌+◌, ◌<◌, ◌≤◌, List, [], ◌∷◌, ◌++◌, length, get_or, drop, Option, Some, None}
use Rattle.std.proofs.Common.{refl, sym, ap, ◌∙◌, arith, append_assoc, append-nil}
use Rattle.std.proofs.lemmas.List.{drop_more, drop_all}
use Rattle.std.specs.Option.{option_map, option_and_then}
use Rattle.edit_script.specs.Hex.{byte_of_digits, bytes_of_digits}

-- what is read of the digits when these bytes come before what is read of the rest
abbrev pub before : List ℕ → Option (List ℕ) → Option (List ℕ)
before bytes others = option_map (λ more. bytes ++ more) others

one_more : (bytes grown : List ℕ) (byte : ℕ) → grown ≡ bytes ++ byte ∷ [] → (others : Option (List ℕ)) →
    before bytes (option_and_then (λ more. Some (byte ∷ more)) others) ≡ before grown others
one_more bytes grown byte is None = refl
one_more bytes grown byte is (Some more) = ap Some (sym (append_assoc bytes (byte ∷ []) more) ∙ ap (λ xs. xs ++ more)
    (sym is))

spelt : (high low byte : ℕ) (rest : List ℕ) → byte_of_digits high low ≡ Some byte → bytes_of_digits (high ∷ low ∷
    rest) ≡ option_and_then (λ more. Some (byte ∷ more)) (bytes_of_digits rest)
unfolding bytes_of_digits
spelt high low byte rest is = ap (λ (o : Option ℕ). option_and_then (λ b. option_and_then (λ more. Some (b ∷ more))
    (bytes_of_digits rest)) o) is

misspelt : (high low : ℕ) (rest : List ℕ) → byte_of_digits high low ≡ None → bytes_of_digits (high ∷ low ∷ rest) ≡ None
unfolding bytes_of_digits
misspelt high low rest is = ap (λ (o : Option ℕ). option_and_then (λ b. option_and_then (λ more. Some (b ∷ more))
    (bytes_of_digits rest)) o) is

lone : (bytes : List ℕ) (digit : ℕ) → before bytes (bytes_of_digits (digit ∷ [])) ≡ None
unfolding bytes_of_digits
lone bytes digit = refl

ended : (bytes : List ℕ) → before bytes (bytes_of_digits []) ≡ Some bytes
unfolding bytes_of_digits
ended bytes = ap Some (append-nil bytes)

pub two : (digits : List ℕ) (at : ℕ) → at + 1 < length digits → drop at digits ≡ get_or digits at 0 ∷ get_or digits
    (at + 1) 0 ∷ drop (at + 2) digits
two digits at within =
    let next : at + 1 + 1 ≡ at + 2 = omega arith in
    drop_more digits at 0 (omega arith) ∙ ap (λ ds. get_or digits at 0 ∷ ds) (drop_more digits (at + 1) 0 within ∙ ap
    (λ i. get_or digits (at + 1) 0 ∷ drop i digits) next)

pub one_step : (digits bytes grown : List ℕ) (at byte : ℕ) → at + 1 < length digits → byte_of_digits (get_or digits at
    0) (get_or digits (at + 1) 0) ≡ Some byte → grown ≡ bytes ++ byte ∷ [] → bytes_of_digits digits ≡ before bytes
    (bytes_of_digits (drop at digits)) → bytes_of_digits digits ≡ before grown (bytes_of_digits (drop (at + 2) digits))
one_step digits bytes grown at byte within is grows so_far = so_far ∙ ap (λ ds. before bytes (bytes_of_digits ds))
    (two digits at within) ∙ ap (before bytes) (spelt (get_or digits at 0) (get_or digits (at + 1) 0) byte
    (drop (at + 2) digits) is) ∙ one_more bytes grown byte grows (bytes_of_digits (drop (at + 2) digits))

pub no_byte : (digits bytes : List ℕ) (at : ℕ) → at + 1 < length digits → byte_of_digits (get_or digits at 0)
    (get_or digits (at + 1) 0) ≡ None → bytes_of_digits digits ≡ before bytes (bytes_of_digits (drop at digits)) →
    bytes_of_digits digits ≡ None
no_byte digits bytes at within is so_far = so_far ∙ ap (λ ds. before bytes (bytes_of_digits ds)) (two digits at
    within) ∙ ap (before bytes) (misspelt (get_or digits at 0) (get_or digits (at + 1) 0) (drop (at + 2) digits) is)

pub odd_end : (digits bytes : List ℕ) (at : ℕ) → at < length digits → length digits ≤ at + 1 → bytes_of_digits digits
    ≡ before bytes (bytes_of_digits (drop at digits)) → bytes_of_digits digits ≡ None
odd_end digits bytes at within last so_far =
    let one : drop at digits ≡ get_or digits at 0 ∷ [] = drop_more digits at 0 within ∙ ap (λ ds. get_or digits at 0 ∷
    ds) (drop_all (at + 1) digits last) in
    so_far ∙ ap (λ ds. before bytes (bytes_of_digits ds)) one ∙ lone bytes (get_or digits at 0)

pub even_end : (digits bytes : List ℕ) (at : ℕ) → length digits ≤ at → bytes_of_digits digits ≡ before bytes
    (bytes_of_digits (drop at digits)) → bytes_of_digits digits ≡ Some bytes
even_end digits bytes at all so_far = so_far ∙ ap (λ ds. before bytes (bytes_of_digits ds)) (drop_all at digits all) ∙
    ended bytes
