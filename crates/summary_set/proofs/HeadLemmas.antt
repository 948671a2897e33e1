-- The head of a written set, field by field.
use Rattle.std.proofs.Common.{◌≡◌, ◌∙◌, ℕ, ◌+◌, ◌-◌, List}
use Rattle.std.proofs.Common.{◌++◌}
use Rattle.std.proofs.Common.{length, take, refl, sym, ap, subst, arith, length-append, append_assoc}
use Rattle.std.specs.Prelude.{slice_range}
use Rattle.std.proofs.lemmas.List.{take_at}
use Rattle.doc_bits.specs.Number.{number_at, number_bytes}
use Rattle.doc_bits.proofs.Public.{number_at-after, number_at-number_bytes, length-number_bytes, drop-front}
use Rattle.summary_set.specs.Written.{KeptBytes}
use Rattle.summary_set.specs.Written.{written_head}

-- ---- what is behind a front

pub skip : (front rest : List ℕ) (n at k : ℕ) → length front ≡ n →
    number_at (front ++ rest) (n + at) k ≡ number_at rest at k
skip front rest n at k h = subst (λ m. number_at (front ++ rest) (m + at) k ≡ number_at rest at k) h
    (number_at-after front
    rest at k)

pub range_after : (front rest : List ℕ) (n from to : ℕ) → length front ≡ n →
    slice_range (front ++ rest) (n + from) (n + to) ≡
    slice_range rest from to
range_after front rest n from to h =
    let width : n + to - (n + from) ≡ to - from = omega arith in
    rw (width, drop-front front rest n from h) refl

-- ---- the head

-- the stream, field by field
pub flat : KeptBytes → List ℕ → List ℕ
flat kept rest = number_bytes 2
    0xFFFE ++ (kept.system ++ (number_bytes 4 1 ++ (kept.format ++ (number_bytes 4 48 ++ rest))))

pub flat-is : (kept : KeptBytes) (rest : List ℕ) → written_head kept ++ rest ≡ flat kept rest
unfolding flat
flat-is kept rest =
    let a : List ℕ = number_bytes 2 0xFFFE in
    let b : List ℕ = number_bytes 4 1 in
    let d : List ℕ = number_bytes 4 48 in
    append_assoc a (kept.system ++ (b ++ (kept.format ++ d))) rest
    ∙ (ap (λ x. a ++ x) (append_assoc kept.system (b ++ (kept.format ++ d)) rest)
    ∙ (ap (λ x. a ++ (kept.system ++ x)) (append_assoc b (kept.format ++ d) rest)
    ∙ ap (λ x. a ++ (kept.system ++ (b ++ x))) (append_assoc kept.format d rest)))

-- kept bytes of the right lengths
pub record IsKept (kept : KeptBytes) : Type 0 where
  pub system : length kept.system ≡ 22
  pub format : length kept.format ≡ 16

pub head_len : (kept : KeptBytes) → IsKept kept → length (written_head kept) ≡ 48
head_len kept is =
    let a = length-append (number_bytes 2 0xFFFE)
    (kept.system ++ (number_bytes 4 1 ++ (kept.format ++ number_bytes 4 48))) in
    let b = length-append kept.system (number_bytes 4 1 ++ (kept.format ++ number_bytes 4 48)) in
    let d = length-append (number_bytes 4 1) (kept.format ++ number_bytes 4 48) in
    let e = length-append kept.format (number_bytes 4 48) in
    let x = length-number_bytes 2 0xFFFE in
    let y = length-number_bytes 4 1 in
    let z = length-number_bytes 4 48 in
    let system = is.system in
    let format = is.format in
    omega arith

-- behind the head
pub flat-skip : (kept : KeptBytes) (rest : List ℕ) (at k : ℕ) → IsKept kept → number_at (flat kept rest) (48 + at) k ≡
    number_at rest at k
unfolding flat
flat-skip kept rest at k is =
    let a : List ℕ = number_bytes 2 0xFFFE in
    let b : List ℕ = number_bytes 4 1 in
    let d : List ℕ = number_bytes 4 48 in
    let place : 48 + at ≡ 2 + (22 + (4 + (16 + (4 + at)))) = omega arith in
    ap (λ p. number_at (a ++ (kept.system ++ (b ++ (kept.format ++ (d ++ rest))))) p k) place
    ∙ (skip a (kept.system ++ (b ++ (kept.format ++ (d ++ rest)))) 2 (22 + (4 + (16 + (4 + at)))) k
    (length-number_bytes 2
    0xFFFE)
    ∙ (skip kept.system (b ++ (kept.format ++ (d ++ rest))) 22 (4 + (16 + (4 + at))) k is.system
    ∙ (skip b (kept.format ++ (d ++ rest)) 4 (16 + (4 + at)) k (length-number_bytes 4 1)
    ∙ (skip kept.format (d ++ rest) 16 (4 + at) k is.format
    ∙ skip d rest 4 at k (length-number_bytes 4 48)))))

pub flat-range : (kept : KeptBytes) (rest : List ℕ) (from to : ℕ) → IsKept kept →
    slice_range (flat kept rest) (48 + from)
    (48 + to) ≡ slice_range rest from to
unfolding flat
flat-range kept rest from to is =
    let front : List ℕ = written_head kept in
    let long : length front ≡ 48 = head_len kept is in
    ap (λ x. slice_range x (48 + from) (48 + to)) (sym (flat-is kept rest)) ∙ range_after front rest 48 from to long

pub flat-mark : (kept : KeptBytes) (rest : List ℕ) → number_at (flat kept rest) 0 2 ≡ 0xFFFE
unfolding flat
flat-mark kept rest = number_at-number_bytes 2 0xFFFE
    (kept.system ++ (number_bytes 4 1 ++ (kept.format ++ (number_bytes 4
    48 ++ rest)))) (omega arith)

pub flat-one : (kept : KeptBytes) (rest : List ℕ) → IsKept kept → number_at (flat kept rest) 24 4 ≡ 1
unfolding flat
flat-one kept rest is =
    let b : List ℕ = number_bytes 4 1 in
    let more : List ℕ = kept.format ++ (number_bytes 4 48 ++ rest) in
    skip (number_bytes 2 0xFFFE) (kept.system ++ (b ++ more)) 2 22 4 (length-number_bytes 2 0xFFFE)
    ∙ (skip kept.system (b ++ more) 22 0 4 is.system ∙ number_at-number_bytes 4 1 more (omega arith))

pub flat-begin : (kept : KeptBytes) (rest : List ℕ) → IsKept kept → number_at (flat kept rest) 44 4 ≡ 48
unfolding flat
flat-begin kept rest is =
    let a : List ℕ = number_bytes 2 0xFFFE in
    let b : List ℕ = number_bytes 4 1 in
    let d : List ℕ = number_bytes 4 48 in
    skip a (kept.system ++ (b ++ (kept.format ++ (d ++ rest)))) 2 42 4 (length-number_bytes 2 0xFFFE)
    ∙ (skip kept.system (b ++ (kept.format ++ (d ++ rest))) 22 20 4 is.system
    ∙ (skip b (kept.format ++ (d ++ rest)) 4 16 4 (length-number_bytes 4 1)
    ∙ (skip kept.format (d ++ rest) 16 0 4 is.format ∙ number_at-number_bytes 4 48 rest (omega arith))))

-- a part of its own at the front
pub range_front : (xs rest : List ℕ) (n : ℕ) → length xs ≡ n → slice_range (xs ++ rest) 0 n ≡ xs
range_front xs rest n h =
    let width : n - 0 ≡ n = omega arith in
    ap (λ m. take m (xs ++ rest)) width ∙ take_at xs rest n h

pub flat-system : (kept : KeptBytes) (rest : List ℕ) → IsKept kept → slice_range (flat kept rest) 2 24 ≡ kept.system
unfolding flat
flat-system kept rest is =
    let more : List ℕ = number_bytes 4 1 ++ (kept.format ++ (number_bytes 4 48 ++ rest)) in
    range_after (number_bytes 2 0xFFFE) (kept.system ++ more) 2 0 22 (length-number_bytes 2 0xFFFE)
    ∙ range_front kept.system more 22 is.system

pub flat-format : (kept : KeptBytes) (rest : List ℕ) → IsKept kept → slice_range (flat kept rest) 28 44 ≡ kept.format
unfolding flat
flat-format kept rest is =
    let b : List ℕ = number_bytes 4 1 in
    let more : List ℕ = number_bytes 4 48 ++ rest in
    range_after (number_bytes 2 0xFFFE) (kept.system ++ (b ++ (kept.format ++ more))) 2 26 42
    (length-number_bytes 2 0xFFFE)
    ∙ (range_after kept.system (b ++ (kept.format ++ more)) 22 4 20 is.system
    ∙ (range_after b (kept.format ++ more) 4 0 16 (length-number_bytes 4 1) ∙ range_front kept.format more 16
    is.format))
