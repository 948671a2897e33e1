-- Bodies behind their sizes.
use Rattle.std.proofs.Common.{◌≡◌, ℕ, suc, ◌+◌, ◌^◌, ◌<◌, ◌≤◌, List, [], ◌∷◌, ◌++◌, length, take, drop, slice_index}
use Rattle.std.proofs.Common.{refl, sym, ap, subst, ◌∙◌}
use Rattle.std.proofs.Common.{arith, append_assoc, length-append, length-take, length-drop}
use Rattle.std.proofs.Math.Seq.{take-append_seam, drop-append_seam}
use Rattle.std.proofs.lemmas.List.{take-append-drop}
use Rattle.doc_bits.specs.Number.{number_at, number_bytes, AreBytes}
use Rattle.doc_bits.proofs.Public.{number_bytes-number_at, same_front, number_at-after, number_at-number_bytes}
use Rattle.doc_bits.proofs.Public.{length-number_bytes}
use Rattle.piece_table.specs.Clx.{sized_bytes}

-- a size and a body at the front are spelled
pub front_spelt : (clxt width size : ℕ) (bytes : List ℕ) → AreBytes bytes → suc width + size ≤ length bytes →
    slice_index bytes 0 ≡ clxt → number_at bytes 1 width ≡ size → (length (take size (drop (suc width) bytes)) ≡ size)
    × (bytes ≡ sized_bytes clxt width (take size (drop (suc width) bytes)) ++ drop size (drop (suc width) bytes))
front_spelt clxt width size [] are long head count = absurd (omega arith)
front_spelt clxt width size (b ∷ rest) are long head count =
    let body = take size (drop width rest) in
    let len : length body ≡ size = omega (arith, length-take size (drop width rest), length-drop width rest) in
    let moved = number_at-after (b ∷ []) rest 0 width in
    let number : number_at rest 0 width ≡ length body = sym moved ∙ (count ∙ sym len) in
    let front : number_bytes width (length body) ≡ take width rest = ap (number_bytes width) (sym number) ∙
    number_bytes-number_at width rest (λ i. are (suc i)) (omega arith) in
    let tail : rest ≡ (number_bytes width (length body) ++ body) ++ drop size (drop width rest) =
    rw (
      front,
      append_assoc (take width rest) body (drop size (drop width rest)),
      take-append-drop size
          (drop width rest),
      take-append-drop width rest,
    ) refl in
    (len, cc (head, tail))

-- what is spelled at the front is read
pub spelt_front : (clxt width : ℕ) (body more bytes : List ℕ) → length body < 256 ^ width → bytes ≡ sized_bytes clxt
    width body ++ more → (slice_index bytes 0 ≡ clxt) × ((number_at bytes 1 width ≡ length body) × (suc width + length
    body ≤ length bytes))
spelt_front clxt width body more bytes fits e =
    let tail = (number_bytes width (length body) ++ body) ++ more in
    let moved = number_at-after (clxt ∷ []) tail 0 width in
    let number : number_at tail 0 width ≡ length body = rw (append_assoc (number_bytes width (length body)) body more)
    (number_at-number_bytes width (length body) (body ++ more) fits) in
    let size : suc (length tail) ≡ suc width + length body + length more = omega (
      arith,
      length-append (number_bytes
          width (length body) ++ body) more,
      length-append (number_bytes width (length body)) body,
      length-number_bytes
          width (length body),
    ) in
    rw e (refl, (moved ∙ number, omega arith))

-- the body is behind its size
pub spelt_body : (clxt width : ℕ) (body more bytes : List ℕ) → bytes ≡ sized_bytes clxt width body ++ more →
    take (length body) (drop (suc width) bytes) ≡ body
spelt_body clxt width body more bytes e =
    let size = length-number_bytes width (length body) in
    let behind : drop width (number_bytes width (length body) ++ (body ++ more)) ≡ body ++ more =
    subst (λ n. drop n (number_bytes width (length body) ++ (body ++ more)) ≡ body ++ more) size (drop-append_seam
    (number_bytes width (length body)) (body ++ more)) in
    rw (e, append_assoc (number_bytes width (length body)) body more, behind) (take-append_seam body more)

-- a body behind its size is the only one
pub sized_unique : (clxt width : ℕ) (a b x y : List ℕ) → length a < 256 ^ width → length b < 256 ^ width →
    sized_bytes clxt width a ++ x ≡ sized_bytes clxt width b ++ y → (a ≡ b) × (x ≡ y)
sized_unique clxt width a b x y fits_a fits_b e =
    let one = spelt_front clxt width a x (sized_bytes clxt width a ++ x) fits_a refl in
    let other = spelt_front clxt width b y (sized_bytes clxt width a ++ x) fits_b e in
    let size : length a ≡ length b = sym one.1.0 ∙ other.1.0 in
    let tail : (number_bytes width (length a) ++ a) ++ x ≡ (number_bytes width (length b) ++ b) ++ y = cc in
    let sizes : length (number_bytes width (length a) ++ a) ≡ length (number_bytes width (length b) ++ b) =
    omega (
      arith,
      length-append (number_bytes width (length a)) a,
      length-append (number_bytes width (length b)) b,
      length-number_bytes width (length a),
      length-number_bytes width (length b),
    ) in
    let both = same_front (number_bytes width (length a) ++ a) (number_bytes width (length b) ++ b) x y sizes tail in
    let fronts : length (number_bytes width (length a)) ≡ length (number_bytes width (length b)) = omega (
      arith,
      length-number_bytes width (length a),
      length-number_bytes width (length b),
    ) in
    let bodies = same_front (number_bytes width (length a)) (number_bytes width (length b)) a b fronts both.0 in
    (bodies.1, both.1)
