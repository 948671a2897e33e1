-- How the bytes of characters come to be in a block.
use Rattle.std.proofs.Common.{◌≡◌, ◌∙◌, ℕ, ◌+◌, ◌-◌, ◌<◌, ◌≤◌, List, [], ◌∷◌, ◌++◌, length, take, drop, refl, sym, ap, subst}
use Rattle.std.proofs.Common.{append_assoc, append-nil, arith, length-take, length-drop}
use Rattle.std.specs.Prelude.{encode_utf8, encode_utf8_all, slice_index}
use Rattle.std.specs.Str.{IsAscii}
use Rattle.std.proofs.Math.Seq.{take-add}
use Rattle.std.proofs.lemmas.List.{get_or-take, take_all, take_more}
use Rattle.std.proofs.lemmas.List.Elements.{All-from_get_or}
use Rattle.std.proofs.lemmas.Str.{encodes-append, encodes-IsAscii}
use Rattle.std.proofs.lemmas.Str.Ascii.{IsAscii-from_all}

-- the bytes of one more character
pub encoded_more : (front units before after : List ℕ) (count : ℕ) → count < length units →
    before ≡ front ++ encode_utf8_all (take count units) → after ≡ before ++ encode_utf8 (slice_index units count) →
    after ≡ front ++ encode_utf8_all (take (count + 1) units)
encoded_more front units before after count within was is =
    let unit = slice_index units count in
    let so_far = encode_utf8_all (take count units) in
    let next : take (count + 1) units ≡ take count units ++ unit ∷ [] = take_more units count 0 within in
    let all : encode_utf8_all (take (count + 1) units) ≡ so_far ++ encode_utf8 unit =
    ap encode_utf8_all next
    ∙ encodes-append (take count units) (unit ∷ [])
    ∙ ap (λ (bytes : List ℕ). so_far ++ bytes) (append-nil (encode_utf8 unit)) in
    is
    ∙ ap (λ (bytes : List ℕ). bytes ++ encode_utf8 unit) was
    ∙ append_assoc front so_far (encode_utf8 unit)
    ∙ ap (λ (bytes : List ℕ). front ++ bytes) (sym all)

-- units that are ASCII are their own bytes
pub ascii_encoded : (units : List ℕ) (count : ℕ) → count ≤ length units →
    ((k : ℕ) → k < count → slice_index units k < 128) → encode_utf8_all (take count units) ≡ take count units
ascii_encoded units count within ascii =
    let long : length (take count units) ≡ count = omega (arith, length-take count units, within) in
    encodes-IsAscii (take count units)
    (IsAscii-from_all (take count units)
    (All-from_get_or (λ unit. unit < 128) (take count units) 0
    (λ i below.
    let inside : i < count = omega (arith, below, long) in
    subst (λ unit. unit < 128) (sym (get_or-take count units i 0 inside)) (ascii i inside))))

-- the front of a list, and that of the rest behind it
pub front_more : (units : List ℕ) (count more : ℕ) →
    take (count + more) units ≡ take count units ++ take more (take (length units - count) (drop count units))
front_more units count more =
    let whole = take_all (length units - count) (drop count units) (omega (arith, length-drop count units)) in
    take-add count more units ∙ ap (λ (rest : List ℕ). take count units ++ take more rest) (sym whole)

-- the bytes of a front, and those of units of the rest
pub encoded_front : (units before after : List ℕ) (count more : ℕ) → before ≡ encode_utf8_all (take count units) →
    after ≡ before ++ encode_utf8_all (take more (take (length units - count) (drop count units))) →
    after ≡ encode_utf8_all (take (count + more) units)
encoded_front units before after count more was is =
    let rest = take more (take (length units - count) (drop count units)) in
    is
    ∙ ap (λ (bytes : List ℕ). bytes ++ encode_utf8_all rest) was
    ∙ sym (encodes-append (take count units) rest)
    ∙ ap encode_utf8_all (sym (front_more units count more))
