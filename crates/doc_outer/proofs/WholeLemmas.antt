-- On reading a file part by part.
use Rattle.std.proofs.Common.{◌≡◌, ℕ, ◌+◌, ◌≤◌, List, ◌++◌, length, take, drop, sym, ap, ◌∙◌, arith, length-append}
use Rattle.std.proofs.Common.{length-drop}
use Rattle.std.specs.Prelude.{Option, Some, None}
use Rattle.std.proofs.Math.Seq.{take-add}
use Rattle.std.proofs.lemmas.List.{length-take-le}
use Rattle.doc_outer.specs.Held.{ReadsPart}

-- the bytes are the front of what the name holds
abbrev pub IsFront : List ℕ → Option (List ℕ) → Type 0
IsFront bytes None = length bytes ≡ 0
IsFront bytes (Some all) = (bytes ≡ take (length bytes) all) × (length bytes ≤ length all)

-- a front, and what is behind it
front_append : (bytes part all : List ℕ) (count : ℕ) → bytes ≡ take (length bytes) all → length bytes ≤ length all →
    part ≡ take count (drop (length bytes) all) → count ≤ length (drop (length bytes) all) → IsFront (bytes ++ part)
    (Some all)
front_append bytes part all count front within is fits =
    let taken : length part ≡ count = ap length is ∙ length-take-le count (drop (length bytes) all) fits in
    let both : length (bytes ++ part) ≡ length bytes + count = length-append bytes part ∙ ap (λ n. length bytes + n)
    taken in
    let joined : bytes ++ part ≡ take (length bytes) all ++ take count (drop (length bytes) all) = cc in
    (rw both (joined ∙ sym (take-add (length bytes) count all)), omega (arith, length-drop (length bytes) all))

-- a front and the part that was read behind it are a front
pub IsFront-append : (bytes buffer : List ℕ) (at count : ℕ) → length bytes ≡ at → (there : Option (List ℕ)) →
    IsFront bytes there → ReadsPart at count buffer there → IsFront (bytes ++ take count buffer) there
IsFront-append bytes buffer at count len None front part = absurd part
IsFront-append bytes buffer at count len (Some all) front part =
    front_append bytes (take count buffer) all count front.0 front.1 (rw len part.bytes) (rw len part.within)
