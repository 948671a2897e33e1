-- The parts of the table stream, which rule 26 puts within it.
use Rattle.std.proofs.Common.{◌≡◌, ◌≢◌, ℕ, ◌+◌, ◌-◌, ◌<◌, ◌≤◌, min, List, [], inl, inr, refl, sym, ap, ◌∙◌, lit<}
use Rattle.std.proofs.Common.{length, drop, take, slice_range, arith}
use Rattle.std.proofs.lemmas.Bool.{cases_lt}
use Rattle.std.proofs.lemmas.List.{length-take, length-drop, take_all, drop_all}
use Rattle.doc_bits.specs.Rules.{Nowhere}
use Rattle.fib_form.specs.Fib.{fib_pair, fib_pair_place, table_part}
use Rattle.fib_form.specs.FibFields.{FibFields, fib_fields, listed_pair}
use Rattle.fib_form.proofs.Public.{pair_at-fib_pairs}
use Rattle.fib_form.specs.declared.table_parts.TablePart.{TablePart}
use Rattle.fib_form.specs.declared.table_parts.TablePart.TheVariants.{Clx}
use Rattle.file_rules.specs.PairRules.{IsReadPair, HasWrongPart, BreaksPairs}
use Rattle.fib_form.specs.TableParts.{pair_number}

-- a part that rule 26 checks, and that is not empty, is within the table stream
pub part-inside : (wd : List ℕ) (table_len : ℕ) (part : TablePart) → IsReadPair (pair_number part) →
    Nowhere (BreaksPairs wd table_len) → (fib_pair wd (pair_number part)).1 ≢ 0 →
    (fib_pair wd (pair_number part)).0 + (fib_pair wd (pair_number part)).1 ≤ table_len
part-inside wd table_len part read none some =
    let n = pair_number part in
    let pair = fib_pair wd n in
    elim (cases_lt table_len (pair.0 + pair.1)) [
      | inl over ↦
          let wrong : HasWrongPart wd table_len read.0 (fib_pair_place n) = rw read.1.1 (refl, inl (some, over)) in
          absurd (none (fib_pair_place n) (record { entry = read.0; below = read.1.0; broken = wrong }))
      | inr within ↦ within
    ]

-- a pair, as the FIB was read
pub pair-read : (wd : List ℕ) (fib : FibFields) (n : ℕ) → n < 93 → fib ≡ fib_fields wd → listed_pair fib.pairs n ≡
    fib_pair wd n
pair-read wd fib n h e = ap (λ (f : FibFields). listed_pair f.pairs n) e ∙ pair_at-fib_pairs wd n h

-- the pair of the Clx
pub clx_pair : (n : ℕ) (wd : List ℕ) (fib : FibFields) (pair : ℕ × ℕ) → n ≡ pair_number Clx → pair ≡ listed_pair
    fib.pairs n →
    fib ≡ fib_fields wd → pair ≡ fib_pair wd (pair_number Clx)
clx_pair n wd fib pair n_is pair_is fields = pair_is ∙ (ap (listed_pair fib.pairs) n_is ∙ pair-read wd fib (pair_number
    Clx)
    (lit< tt) fields)

-- the part of a list, as far as it is within the list
pub range_within : (xs : List ℕ) (from to : ℕ) → slice_range xs (min (length xs) from) (min (length xs) to) ≡
    slice_range xs from to
range_within xs from to = elim (cases_lt from (length xs)) [
  | inl low ↦
      let begin : min (length xs) from ≡ from = omega arith in
      rw begin (elim (cases_lt to (length xs)) [
        | inl inside ↦ (let end : min (length xs) to ≡ to = omega arith in rw end refl)
        | inr over ↦
            let end : min (length xs) to ≡ length xs = omega arith in
            rw end
            (take_all (length xs - from) (drop from xs) (omega (arith, length-drop from xs))
            ∙ sym (take_all (to - from) (drop from xs) (omega (arith, length-drop from xs))))
      ])
  | inr high ↦
      let begin : min (length xs) from ≡ length xs = omega arith in
      let none : drop (length xs) xs ≡ drop from xs = drop_all (length xs) xs (omega arith) ∙ sym (drop_all from xs
      high) in
      let empty : length (drop from xs) ≡ 0 = omega (arith, length-drop from xs) in
      rw (begin, none) (take_all (min (length xs) to - length xs) (drop from xs) (omega arith) ∙ sym
      (take_all (to - from) (drop from xs) (omega arith)))
]

-- a part that has bytes is within the list
pub length-range_within : (xs : List ℕ) (from width : ℕ) → 0 < length (slice_range xs from (from + width)) →
    from + length (slice_range xs from (from + width)) ≤ length xs
length-range_within xs from width some = omega (
  arith,
  some,
  length-take (from + width - from) (drop from xs),
  length-drop from xs,
)

-- a part of no bytes
pub table_part-empty : (wd table : List ℕ) (n : ℕ) → (fib_pair wd n).1 ≡ 0 → length (table_part wd table n) ≡ 0
table_part-empty wd table n e =
    let fc = (fib_pair wd n).0 in
    let lcb = (fib_pair wd n).1 in
    let len = length-take (fc + lcb - fc) (drop fc table) in omega arith

-- a part has as many bytes as its pair says
pub length-table_part : (wd table : List ℕ) (n : ℕ) → (fib_pair wd n).0 + (fib_pair wd n).1 ≤ length table →
    length (table_part wd table n) ≡ (fib_pair wd n).1
length-table_part wd table n within =
    let fc = (fib_pair wd n).0 in
    let lcb = (fib_pair wd n).1 in
    let rest = length-drop fc table in
    let len = length-take (fc + lcb - fc) (drop fc table) in omega arith

-- a part has at most the bytes of the table stream
pub length-part-most : (wd table : List ℕ) (n : ℕ) → length (table_part wd table n) ≤ length table
length-part-most wd table n =
    let fc = (fib_pair wd n).0 in
    let lcb = (fib_pair wd n).1 in
    let rest = length-drop fc table in
    let len = length-take (fc + lcb - fc) (drop fc table) in omega arith

-- the front of what lies behind so many
pub range-front : (xs : List ℕ) (from count : ℕ) → take count (drop from xs) ≡ slice_range xs from (from + count)
range-front xs from count =
    let same : count ≡ from + count - from = omega arith in
    ap (λ n. take n (drop from xs)) same
