-- Characters that wait, the first one at the end of an array.
use Rattle.std.proofs.Common.{◌≡◌, ℕ, ◌+◌, ◌*◌, ◌<◌, ◌≤◌, List, [], ◌∷◌, ◌++◌, length, take, drop, get_or, sym}
use Rattle.std.proofs.Common.{ap, ◌∙◌, arith}
use Rattle.std.proofs.Common.{length-append}
use Rattle.std.specs.Prelude.{reverse, slice_set}
use Rattle.std.specs.List.{flat_map}
use Rattle.std.proofs.lemmas.List.{length-reverse, length-take-le, reverse-append, take_more, take_more_set}
use Rattle.field_links.specs.Urls.{percent_byte}
use Rattle.field_links.proofs.StepLemmas.{drop_first, length-percent_byte}

-- as many as are counted
pub length-waiting : (codes : List ℕ) (len : ℕ) → len ≤ length codes → length (reverse (take len codes)) ≡ len
length-waiting codes len within = length-reverse (take len codes) ∙ length-take-le len codes within

-- the first one is taken
pub popped : (codes : List ℕ) (len : ℕ) → len < length codes → reverse (take (len + 1) codes) ≡ get_or codes len 0 ∷ reverse
    (take len codes)
popped codes len within =
    ap reverse (take_more codes len 0 within) ∙ reverse-append (take len codes) (get_or codes len 0 ∷ [])

-- one more waits
pub pushed : (codes : List ℕ) (len code : ℕ) → len < length codes → reverse (take (len + 1) (slice_set codes len code)) ≡
    code ∷ reverse (take len codes)
pushed codes len code within =
    ap reverse (take_more_set codes len code within) ∙ reverse-append (take len codes) (code ∷ [])

-- a byte more waits
pub byte_more : (bytes waits new : List ℕ) (left : ℕ) → left < length bytes →
    waits ≡ flat_map percent_byte (drop (left + 1) bytes) → new ≡ percent_byte (get_or bytes left 0) ++ waits →
    new ≡ flat_map percent_byte (drop left bytes)
byte_more bytes waits new left within here is =
    is ∙ (ap (λ more. percent_byte (get_or bytes left 0) ++ more) here
    ∙ ap (flat_map percent_byte) (sym (drop_first bytes left within)))

-- there is room for those before it
pub byte_room : (byte left : ℕ) (waits new : List ℕ) → length waits + 3 * (left + 1) ≤ 12 →
    new ≡ percent_byte byte ++ waits → length new + 3 * left ≤ 12
byte_room byte left waits new room is =
    let few = length-percent_byte byte in let both = length-append (percent_byte byte) waits in
    let long = ap length is in omega (arith, room, few, both, long)
